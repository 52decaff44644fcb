-- Boards with turning loops, zones whose two ends meet at one point (request c of document 02), and what the documents give them. Home is
-- point 0 on all of them.
use Rattle.std.specs.Prelude.{ℕ, ◌+◌, ◌*◌, length}
use mathlib.Core.List.{List, [], ◌∷◌, flatten}
use Rattle.rules.specs.Rows.{Row, on_sheet, accepted_board, refused_board}

-- a zone's bytes: its ends, its carrier and the heading
abbrev pub zone : ℕ → ℕ → ℕ → ℕ → List ℕ
zone a b carrier heading = a ∷ b ∷ carrier ∷ heading ∷ []

abbrev pub free : ℕ → ℕ → List ℕ
free a b = zone a b 0 0

-- a board of so many points
abbrev pub laid_out : ℕ → List (List ℕ) → List ℕ
laid_out points zones = 0 ∷ (4 + 4 * length zones) ∷ 1 ∷ points ∷ 0 ∷ length zones ∷ flatten zones

-- board T with another last zone
abbrev last_of_t : List ℕ → List ℕ
last_of_t last = laid_out 2 (free 0 1 ∷ last ∷ [])

-- carrier 5 heads for point 1, which has this zone too
abbrev to_loop : List ℕ → List ℕ
to_loop last = laid_out 2 (zone 0 1 5 0 ∷ last ∷ [])

-- carrier 5 stands in a turning loop at home, heading 1
unfoldable pub loop_at_home : List ℕ
loop_at_home = laid_out 2 (free 0 1 ∷ free 0 1 ∷ zone 0 0 5 1 ∷ [])

unfoldable pub turning_loops : List Row
turning_loops =
    -- equal ends are no part of row 6, whose other parts stand
    refused_board (last_of_t (free 0 0)) 8 ∷
    refused_board (last_of_t (free 0 2)) 6 ∷
    refused_board (last_of_t (free 2 2)) 6 ∷
    refused_board (last_of_t (zone 0 0 0 1)) 6 ∷
    refused_board (last_of_t (zone 0 0 7 2)) 6 ∷
    -- a loop counts twice toward the two zones of its point
    refused_board (laid_out 2 (free 0 0 ∷ free 1 1 ∷ [])) 9 ∷
    accepted_board (last_of_t (free 1 1)) 0 [] [] ∷
    -- a free loop turns a carrier, by the smaller of its two words; a held one turns nobody
    accepted_board (to_loop (free 1 1)) 0 (5 ∷ 3 ∷ 0 ∷ 2 ∷ 1 ∷ []) [] ∷
    accepted_board (to_loop (zone 1 1 6 0)) 20 [] (5 ∷ 6 ∷ []) ∷
    accepted_board (to_loop (zone 1 1 6 1)) 20 [] (5 ∷ 6 ∷ []) ∷
    -- a carrier in a loop leaves at its point with either heading
    accepted_board (laid_out 2 (zone 0 1 5 1 ∷ zone 1 1 6 0 ∷ [])) 0 (5 ∷ 1 ∷ 1 ∷ 6 ∷ 2 ∷ 2 ∷ 1 ∷ []) [] ∷
    accepted_board (last_of_t (zone 1 1 6 0)) 0 (6 ∷ 2 ∷ 2 ∷ 1 ∷ []) [] ∷
    accepted_board (last_of_t (zone 1 1 6 1)) 0 (6 ∷ 2 ∷ 3 ∷ 1 ∷ []) [] ∷
    -- at home
    accepted_board loop_at_home 0 (5 ∷ 1 ∷ 5 ∷ []) [] ∷
    accepted_board (laid_out 2 (zone 0 1 7 0 ∷ zone 0 1 9 0 ∷ free 0 0 ∷ [])) 20 [] (7 ∷ 9 ∷ []) ∷
    -- beside a held zone, beside a held loop, and behind a held zone: joining isn't done again for who heads into what was joined
    accepted_board (laid_out 2 (zone 0 1 5 0 ∷ zone 0 1 6 0 ∷ free 1 1 ∷ [])) 0 (5 ∷ 3 ∷ 0 ∷ 4 ∷ 1 ∷ 6 ∷ 2 ∷ 2 ∷ 1 ∷ []) [] ∷
    accepted_board (laid_out 2 (zone 0 1 5 0 ∷ zone 1 1 6 0 ∷ free 1 1 ∷ [])) 0 (5 ∷ 3 ∷ 0 ∷ 4 ∷ 1 ∷ 6 ∷ 2 ∷ 2 ∷ 1 ∷ []) [] ∷
    accepted_board (laid_out 3 (zone 0 1 5 0 ∷ zone 1 2 6 0 ∷ free 2 2 ∷ [])) 20 [] (5 ∷ 6 ∷ []) ∷
    -- a loop is not entered again straight after itself, the same way or the other; either way round is right
    on_sheet (to_loop (free 1 1)) (0 ∷ 5 ∷ 4 ∷ 0 ∷ 2 ∷ 2 ∷ 1 ∷ []) 32 ∷
    on_sheet (to_loop (free 1 1)) (0 ∷ 5 ∷ 4 ∷ 0 ∷ 2 ∷ 3 ∷ 1 ∷ []) 32 ∷
    on_sheet (to_loop (free 1 1)) (0 ∷ 5 ∷ 3 ∷ 0 ∷ 3 ∷ 1 ∷ []) 0 ∷
    on_sheet (to_loop (free 1 1)) (0 ∷ 5 ∷ 3 ∷ 0 ∷ 2 ∷ 1 ∷ []) 0 ∷
    -- a loop with a carrier, and the claim there; a bad board
    on_sheet (to_loop (zone 1 1 6 0)) (0 ∷ 5 ∷ 3 ∷ 0 ∷ 2 ∷ 1 ∷ []) 32 ∷
    on_sheet (to_loop (zone 1 1 6 0)) (1 ∷ 5 ∷ 6 ∷ []) 0 ∷
    on_sheet (last_of_t (free 0 0)) (0 ∷ []) 8 ∷ []

-- The search count (request j of document 02): boards with the words reached in each try, in turn, and the count by the older moving rule and now.
use Rattle.std.specs.Prelude.{ℕ, List, [], ◌∷◌}
use Rattle.rules.specs.Starred.{board_t, turn_with, far_loop}
use Rattle.rules.specs.TurningLoops.{zone, free, laid_out}
use Rattle.rules.specs.Rows.{Row, in_tries, accepted_board}

-- a turn at the far end, and a free zone beside the carrier's own: the way home is short, the search is not
abbrev turn_beyond : List ℕ
turn_beyond = laid_out 3 (zone 0 1 5 0 ∷ free 0 1 ∷ free 1 2 ∷ free 1 2 ∷ [])

-- the far loop with a carrier in a turning loop at home
abbrev loop_and_far_loop : List ℕ
loop_and_far_loop = laid_out 4 (zone 0 1 5 0 ∷ zone 1 2 6 0 ∷ free 2 3 ∷ free 2 3 ∷ zone 0 0 9 0 ∷ [])

unfoldable pub search_rows : List Row
search_rows =
    in_tries (board_t 0 0 0 0) [] 0 0 ∷
    in_tries (board_t 7 0 0 0) ((0 ∷ 3 ∷ []) ∷ []) 2 2 ∷
    in_tries (board_t 7 1 9 1) ((1 ∷ []) ∷ (3 ∷ []) ∷ []) 3 2 ∷
    -- tried in vain, and again once the other is home
    in_tries (board_t 7 0 9 1) ((0 ∷ []) ∷ (3 ∷ []) ∷ (0 ∷ 3 ∷ []) ∷ []) 4 4 ∷
    in_tries (board_t 7 0 9 0) ((0 ∷ []) ∷ (2 ∷ []) ∷ []) 2 2 ∷
    in_tries (turn_with 0 0) ((0 ∷ 1 ∷ 2 ∷ 3 ∷ 4 ∷ 5 ∷ []) ∷ []) 6 6 ∷
    in_tries (turn_with 6 1) ((0 ∷ 4 ∷ []) ∷ (3 ∷ 4 ∷ []) ∷ []) 4 4 ∷
    in_tries far_loop ((0 ∷ []) ∷ (2 ∷ 3 ∷ 4 ∷ 5 ∷ 6 ∷ 7 ∷ []) ∷ []) 7 7 ∷
    in_tries (laid_out 2 (zone 0 1 5 0 ∷ free 1 1 ∷ [])) ((0 ∷ 1 ∷ 2 ∷ 3 ∷ []) ∷ []) 4 4 ∷
    -- a turning loop isn't entered again straight after itself, the other way round
    in_tries (laid_out 2 (zone 0 1 5 0 ∷ zone 1 1 6 0 ∷ [])) ((0 ∷ []) ∷ (2 ∷ []) ∷ []) 2 2 ∷
    -- the search of who goes is counted whole; by the older rule it runs on through home
    accepted_board turn_beyond 0 (5 ∷ 2 ∷ 0 ∷ 3 ∷ []) [] ∷
    in_tries turn_beyond ((0 ∷ 1 ∷ 3 ∷ 4 ∷ 5 ∷ 6 ∷ 7 ∷ []) ∷ []) 8 7 ∷
    -- the last round counts too, in which none goes
    accepted_board loop_and_far_loop 20 (9 ∷ 1 ∷ 8 ∷ []) (5 ∷ 6 ∷ []) ∷
    in_tries loop_and_far_loop ((0 ∷ []) ∷ (2 ∷ 3 ∷ 4 ∷ 5 ∷ 6 ∷ 7 ∷ []) ∷ (8 ∷ []) ∷ (0 ∷ []) ∷ (2 ∷ 3 ∷ 4 ∷ 5 ∷ 6 ∷ 7 ∷ []) ∷ []) 15 15 ∷ []

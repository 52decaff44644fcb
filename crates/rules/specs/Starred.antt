-- The starred boards and sheets of document 01 as rows of one table: the bytes, and what document 01 gives them.
use Rattle.std.specs.Prelude.{ℕ, List, [], ◌∷◌}
use Rattle.model.specs.Reading.{track_said, position_said}
use Rattle.rules.specs.Tries.{Move, into, home, Moves}
use Rattle.rules.specs.Rows.{Row, on_sheet, accepted_board}

-- board T with these carriers and headings in its two zones
unfoldable pub board_t : ℕ → ℕ → ℕ → ℕ → List ℕ
board_t c h d g = 0 ∷ 12 ∷ 1 ∷ 2 ∷ 0 ∷ 2 ∷ 0 ∷ 1 ∷ c ∷ h ∷ 0 ∷ 1 ∷ d ∷ g ∷ []

-- the turn, zones 0–1, 1–2, 1–2 with carrier 5 in zone 0 heading 0, and this carrier and heading in zone 1
unfoldable pub turn_with : ℕ → ℕ → List ℕ
turn_with c h = 0 ∷ 16 ∷ 1 ∷ 3 ∷ 0 ∷ 3 ∷ 0 ∷ 1 ∷ 5 ∷ 0 ∷ 1 ∷ 2 ∷ c ∷ h ∷ 1 ∷ 2 ∷ 0 ∷ 0 ∷ []

unfoldable pub far_loop : List ℕ
far_loop = 0 ∷ 20 ∷ 1 ∷ 4 ∷ 0 ∷ 4 ∷ 0 ∷ 1 ∷ 5 ∷ 0 ∷ 1 ∷ 2 ∷ 6 ∷ 0 ∷ 2 ∷ 3 ∷ 0 ∷ 0 ∷ 2 ∷ 3 ∷ 0 ∷ 0 ∷ []

unfoldable pub starred : List Row
starred =
    accepted_board (board_t 0 0 0 0) 0 [] [] ∷
    accepted_board (board_t 7 0 0 0) 0 (7 ∷ 2 ∷ 0 ∷ 3 ∷ []) [] ∷
    accepted_board (board_t 7 1 9 1) 0 (7 ∷ 1 ∷ 1 ∷ 9 ∷ 1 ∷ 3 ∷ []) [] ∷
    accepted_board (board_t 7 0 9 1) 0 (9 ∷ 1 ∷ 3 ∷ 7 ∷ 2 ∷ 0 ∷ 3 ∷ []) [] ∷
    accepted_board (board_t 7 0 9 0) 20 [] (7 ∷ 9 ∷ []) ∷
    accepted_board (turn_with 0 0) 0 (5 ∷ 4 ∷ 0 ∷ 2 ∷ 5 ∷ 1 ∷ []) [] ∷
    accepted_board (turn_with 6 1) 20 [] (5 ∷ 6 ∷ []) ∷
    accepted_board far_loop 20 [] (5 ∷ 6 ∷ []) ∷
    on_sheet (board_t 7 0 0 0) (0 ∷ 7 ∷ 2 ∷ 0 ∷ 3 ∷ []) 0 ∷
    on_sheet (board_t 7 0 0 0) (1 ∷ 7 ∷ []) 35 ∷ []

-- single moves that empty the turn with 6, though Definition 3 says blocked: "Single moves would still empty this board, since zone 2 is free"
unfoldable pub turn_moves : List Move
turn_moves = into 5 4 ∷ into 6 1 ∷ home 6 ∷ into 5 3 ∷ into 5 1 ∷ home 5 ∷ []

abbrev pub TurnEmptied : Type 0
TurnEmptied = Moves (track_said (turn_with 6 1)) (position_said (turn_with 6 1)) turn_moves (0 ∷ 0 ∷ 0 ∷ [])

-- The table of verdicts of document 01, each number with its own input, and inputs beside them that tell a row from its neighbours. Only for 3
-- and 6 others stand here: their own have version 2 and equal ends, which requests i and c of document 02 allow (WideCarriers.antt,
-- TurningLoops.antt). With the starred boards these pin the numbers, the rooms and the layout of bytes that no theorem speaks of.
use Rattle.std.specs.Prelude.{ℕ, List, [], ◌∷◌}
use Rattle.rules.specs.Key.{turned_back}
use Rattle.rules.specs.Starred.{board_t}
use Rattle.rules.specs.Rows.{Row, on_board, on_sheet, refused_board}

-- an ordered board with room for one carrier out and two zones, and no more
abbrev ordered : List ℕ → List ℕ → Row
ordered b plan = on_board b 6 1 (record { verdict = 0; plan = plan; list = [] }) (record { number = 0; list = [] })

-- board T with other first bytes; board K
unfoldable pub headed : ℕ → ℕ → ℕ → ℕ → ℕ → ℕ → List ℕ
headed l m version points home zones = l ∷ m ∷ version ∷ points ∷ home ∷ zones ∷ 0 ∷ 1 ∷ 0 ∷ 0 ∷ 0 ∷ 1 ∷ 0 ∷ 0 ∷ []

unfoldable pub board_k : List ℕ
board_k = board_t 7 0 0 0

-- n zones that join 0 and 1, free
unfoldable pub zones_free : ℕ → List ℕ
zones_free ℕ.zero = []
zones_free (ℕ.suc n) = 0 ∷ 1 ∷ 0 ∷ 0 ∷ zones_free n

unfoldable pub table : List Row
table =
    -- 1 to 9
    refused_board (0 ∷ 12 ∷ 1 ∷ []) 1 ∷
    refused_board [] 1 ∷
    refused_board (0 ∷ 3 ∷ 1 ∷ 2 ∷ 0 ∷ []) 1 ∷
    refused_board (0 ∷ 4 ∷ 3 ∷ 2 ∷ 0 ∷ 2 ∷ []) 3 ∷
    refused_board (0 ∷ 12 ∷ 1 ∷ 2 ∷ 0 ∷ 2 ∷ 0 ∷ 1 ∷ 0 ∷ 0 ∷ 0 ∷ 1 ∷ 0 ∷ []) 2 ∷
    refused_board (headed 1 12 1 2 0 2) 2 ∷
    refused_board (headed 0 12 3 2 0 2) 3 ∷
    refused_board (headed 0 12 3 0 0 2) 3 ∷
    refused_board (headed 0 12 1 1 0 2) 4 ∷
    refused_board (headed 0 12 1 65 0 2) 4 ∷
    refused_board (headed 0 12 1 2 2 2) 4 ∷
    refused_board (headed 0 12 1 2 0 3) 5 ∷
    refused_board (0 ∷ 12 ∷ 1 ∷ 2 ∷ 0 ∷ 2 ∷ 0 ∷ 1 ∷ 0 ∷ 0 ∷ 0 ∷ 2 ∷ 0 ∷ 0 ∷ []) 6 ∷
    refused_board (board_t 0 0 0 1) 6 ∷
    refused_board (board_t 7 2 0 0) 6 ∷
    refused_board (board_t 7 0 7 0) 7 ∷
    refused_board (0 ∷ 16 ∷ 1 ∷ 3 ∷ 0 ∷ 3 ∷ 0 ∷ 1 ∷ 0 ∷ 0 ∷ 0 ∷ 1 ∷ 0 ∷ 0 ∷ 1 ∷ 2 ∷ 0 ∷ 0 ∷ []) 8 ∷
    refused_board (0 ∷ 20 ∷ 1 ∷ 4 ∷ 0 ∷ 4 ∷ 0 ∷ 1 ∷ 0 ∷ 0 ∷ 0 ∷ 1 ∷ 0 ∷ 0 ∷ 2 ∷ 3 ∷ 0 ∷ 0 ∷ 2 ∷ 3 ∷ 0 ∷ 0 ∷ []) 9 ∷
    -- L over 255 is read
    ordered (1 ∷ 4 ∷ 1 ∷ 2 ∷ 0 ∷ 64 ∷ zones_free 64) [] ∷
    -- 10 and 11, and room that is just enough
    on_board board_k 5 1 (turned_back 10) (record { number = 0; list = [] }) ∷
    on_board board_k 5 0 (turned_back 10) (record { number = 11; list = [] }) ∷
    on_board board_k 6 0 (turned_back 11) (record { number = 11; list = [] }) ∷
    ordered board_k (7 ∷ 2 ∷ 0 ∷ 3 ∷ []) ∷
    -- another home point, and a zone whose end A is the higher one
    ordered (0 ∷ 12 ∷ 1 ∷ 2 ∷ 1 ∷ 2 ∷ 0 ∷ 1 ∷ 7 ∷ 0 ∷ 0 ∷ 1 ∷ 0 ∷ 0 ∷ []) (7 ∷ 1 ∷ 0 ∷ []) ∷
    ordered (0 ∷ 12 ∷ 1 ∷ 2 ∷ 0 ∷ 2 ∷ 1 ∷ 0 ∷ 7 ∷ 0 ∷ 0 ∷ 1 ∷ 0 ∷ 0 ∷ []) (7 ∷ 1 ∷ 0 ∷ []) ∷
    -- 30 to 35
    on_sheet board_k (2 ∷ []) 30 ∷
    on_sheet board_k [] 30 ∷
    on_sheet board_k (0 ∷ 7 ∷ []) 30 ∷
    on_sheet board_k (0 ∷ 7 ∷ 0 ∷ []) 30 ∷
    on_sheet board_k (0 ∷ 7 ∷ 3 ∷ 0 ∷ 3 ∷ []) 30 ∷
    on_sheet board_k (0 ∷ 8 ∷ 1 ∷ 0 ∷ []) 31 ∷
    on_sheet board_k (0 ∷ 0 ∷ 1 ∷ 3 ∷ []) 31 ∷
    on_sheet board_k (0 ∷ 263 ∷ 2 ∷ 0 ∷ 3 ∷ []) 31 ∷
    on_sheet board_k (0 ∷ 7 ∷ 2 ∷ 0 ∷ 3 ∷ 7 ∷ 2 ∷ 0 ∷ 3 ∷ []) 31 ∷
    on_sheet board_k (0 ∷ 7 ∷ 2 ∷ 0 ∷ 2 ∷ []) 32 ∷
    on_sheet board_k (0 ∷ 7 ∷ 1 ∷ 1 ∷ []) 32 ∷
    on_sheet board_k (0 ∷ 7 ∷ 2 ∷ 0 ∷ 1 ∷ []) 32 ∷
    on_sheet board_k (0 ∷ 7 ∷ 2 ∷ 0 ∷ 4 ∷ []) 32 ∷
    on_sheet board_k (0 ∷ 7 ∷ 1 ∷ 0 ∷ []) 33 ∷
    on_sheet board_k (0 ∷ []) 34 ∷
    on_sheet board_k (1 ∷ 7 ∷ []) 35 ∷
    on_sheet board_k (1 ∷ []) 35 ∷
    -- right sheets: another order than the key's; the true list
    on_sheet (board_t 7 1 9 1) (0 ∷ 9 ∷ 1 ∷ 3 ∷ 7 ∷ 1 ∷ 1 ∷ []) 0 ∷
    on_sheet (board_t 7 0 9 0) (1 ∷ 7 ∷ 9 ∷ []) 0 ∷
    on_sheet (board_t 7 0 9 0) (1 ∷ 9 ∷ 7 ∷ []) 35 ∷
    on_sheet (board_t 7 0 9 0) (1 ∷ 7 ∷ 265 ∷ []) 35 ∷ []

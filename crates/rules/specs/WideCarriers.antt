-- Boards of version 2 (request i of document 02): five bytes a zone, the carrier in two. Its own inputs, and inputs beside them that tell the
-- low byte of a carrier from its number, one version from the other, and row 5 in both.
use Rattle.std.specs.Prelude.{ℕ, List, [], ◌∷◌}
use Rattle.rules.specs.Key.{turned_back}
use Rattle.rules.specs.Rows.{Row, on_board, on_sheet, accepted_board, refused_board}
use Rattle.rules.specs.Table.{headed}

-- board T in version 2 with these carriers, high byte and low byte, and headings in its two zones; with its first bytes for another version
abbrev two_zones : ℕ → ℕ → ℕ → ℕ → ℕ → ℕ → List ℕ
two_zones c d h e f g = 2 ∷ 0 ∷ 2 ∷ 0 ∷ 1 ∷ c ∷ d ∷ h ∷ 0 ∷ 1 ∷ e ∷ f ∷ g ∷ []

abbrev pub wide_t : ℕ → ℕ → ℕ → ℕ → ℕ → ℕ → List ℕ
wide_t c d h e f g = 0 ∷ 14 ∷ 2 ∷ two_zones c d h e f g

abbrev free_as : ℕ → List ℕ
free_as version = 0 ∷ 14 ∷ version ∷ two_zones 0 0 0 0 0 0

-- the same with these carrier and heading in zone 0 alone
abbrev pub wide_k : ℕ → ℕ → ℕ → List ℕ
wide_k c d h = wide_t c d h 0 0 0

-- n zones that join 0 and 1, free
unfoldable pub wide_zones_free : ℕ → List ℕ
wide_zones_free ℕ.zero = []
wide_zones_free (ℕ.suc n) = 0 ∷ 1 ∷ 0 ∷ 0 ∷ 0 ∷ wide_zones_free n

unfoldable pub wide_carriers : List Row
wide_carriers =
    -- T and K
    accepted_board (wide_k 0 0 0) 0 [] [] ∷
    accepted_board (wide_k 0 7 0) 0 (7 ∷ 2 ∷ 0 ∷ 3 ∷ []) [] ∷
    -- 256, 263 and 65,535 with either heading
    accepted_board (wide_k 1 0 0) 0 (256 ∷ 2 ∷ 0 ∷ 3 ∷ []) [] ∷
    accepted_board (wide_k 1 0 1) 0 (256 ∷ 1 ∷ 1 ∷ []) [] ∷
    accepted_board (wide_k 1 7 0) 0 (263 ∷ 2 ∷ 0 ∷ 3 ∷ []) [] ∷
    accepted_board (wide_k 1 7 1) 0 (263 ∷ 1 ∷ 1 ∷ []) [] ∷
    accepted_board (wide_k 255 255 0) 0 (65535 ∷ 2 ∷ 0 ∷ 3 ∷ []) [] ∷
    accepted_board (wide_k 255 255 1) 0 (65535 ∷ 1 ∷ 1 ∷ []) [] ∷
    -- 7 and 263 are two carriers, and 7 the lower one; the second zone of a board is read too
    accepted_board (wide_t 0 7 0 1 7 0) 20 [] (7 ∷ 263 ∷ []) ∷
    accepted_board (wide_t 1 7 1 0 7 1) 0 (7 ∷ 1 ∷ 3 ∷ 263 ∷ 1 ∷ 1 ∷ []) [] ∷
    accepted_board (wide_t 1 0 0 255 255 0) 20 [] (256 ∷ 65535 ∷ []) ∷
    accepted_board (wide_t 7 1 0 1 7 0) 20 [] (263 ∷ 1793 ∷ []) ∷
    -- a carrier in two zones, one whose low byte is 0 too
    refused_board (wide_t 1 7 0 1 7 1) 7 ∷
    refused_board (wide_t 1 0 0 1 0 0) 7 ∷
    -- a free zone with heading 1, and heading 2
    refused_board (wide_k 0 0 1) 6 ∷
    refused_board (wide_k 1 0 2) 6 ∷
    -- versions 0 and 3, of either length; 4 is tried before 5, and 5 goes by the version
    refused_board (free_as 0) 3 ∷
    refused_board (free_as 3) 3 ∷
    refused_board (headed 0 12 0 2 0 2) 3 ∷
    refused_board (headed 0 12 2 0 0 2) 4 ∷
    refused_board (headed 0 12 2 2 0 2) 5 ∷
    refused_board (free_as 1) 5 ∷
    refused_board (0 ∷ 4 ∷ 2 ∷ 2 ∷ 0 ∷ 2 ∷ []) 5 ∷
    -- 96 zones, 486 bytes, and 97
    accepted_board (1 ∷ 228 ∷ 2 ∷ 2 ∷ 0 ∷ 96 ∷ wide_zones_free 96) 0 [] [] ∷
    refused_board (1 ∷ 233 ∷ 2 ∷ 2 ∷ 0 ∷ 97 ∷ wide_zones_free 97) 4 ∷
    -- the list counts words: one too few, and just enough
    on_board (wide_t 0 7 0 1 7 0) 12 1 (turned_back 11) (record { number = 11; list = [] }) ∷
    on_board (wide_t 0 7 0 1 7 0) 12 2 (record { verdict = 20; plan = []; list = 7 ∷ 263 ∷ [] }) (record { number = 0; list = 7 ∷ 263 ∷ [] }) ∷
    -- sheets name carriers by the whole number
    on_sheet (wide_k 1 7 0) (0 ∷ 263 ∷ 2 ∷ 0 ∷ 3 ∷ []) 0 ∷
    on_sheet (wide_k 1 7 0) (0 ∷ 7 ∷ 2 ∷ 0 ∷ 3 ∷ []) 31 ∷
    on_sheet (wide_k 255 255 1) (0 ∷ 65535 ∷ 1 ∷ 1 ∷ []) 0 ∷
    on_sheet (wide_t 0 7 0 1 7 0) (1 ∷ 7 ∷ 263 ∷ []) 0 ∷
    on_sheet (wide_t 0 7 0 1 7 0) (1 ∷ 263 ∷ 7 ∷ []) 35 ∷
    on_sheet (wide_t 0 7 0 1 7 0) (1 ∷ 7 ∷ 7 ∷ []) 35 ∷
    on_sheet (wide_t 1 7 0 1 7 1) (0 ∷ 263 ∷ 2 ∷ 0 ∷ 3 ∷ []) 7 ∷ []

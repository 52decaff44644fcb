-- Writes of document 02's request b, with what request i says of the writer: a board, a position sheet and bytes as lent, with the number, the count
-- of bytes written and the lent bytes at exit.
use Rattle.std.specs.Prelude.{ℕ, List, [], ◌∷◌, ◌++◌, map, ◌≡◌, length, replicate}
use Rattle.model.specs.Labels.{parts, join_zones, join_points}
use Rattle.model.specs.Layout.{stride}
use Rattle.model.specs.Lists.{overwritten}
use Rattle.model.specs.Reading.{refusal, too_short, wrong_length, wrong_version, out_of_range, wrong_count, bad_zone, repeated, under_two, apart, track_said, carrier_in}
use Rattle.rules.specs.Starred.{board_t}
use Rattle.rules.specs.Table.{board_k, headed}
use Rattle.rules.specs.TurningLoops.{zone, free, laid_out, loop_at_home}
use Rattle.rules.specs.WideCarriers.{wide_t, wide_k, wide_zones_free}
use Rattle.faircopy.specs.BoardBytes.{head_bytes, entry_byte, entry_bytes, board_bytes, needs_two}
use Rattle.faircopy.specs.Write.{unwritable, write_tested, write_in, write_of}

-- the number, the count of bytes written and the lent bytes at exit
pub record WriteShown : Type 0 where
  pub number : ℕ
  pub count : ℕ
  pub copy : List ℕ

pub data WriteRow : Type 0 where
  on_sheet : (bytes sheet lent : List ℕ) → WriteShown → WriteRow

-- what the definition gives, computed
unfoldable pub computed : WriteRow → WriteShown
unfolding write_of write_in write_tested unwritable needs_two board_bytes entry_bytes entry_byte head_bytes refusal too_short wrong_length wrong_version out_of_range wrong_count bad_zone repeated under_two apart parts join_zones join_points track_said stride carrier_in
computed (on_sheet b sheet lent s) =
    let a = write_of b sheet (length lent) in
    record { number = a.number; count = length a.written; copy = overwritten a.written lent }

-- what the row says
abbrev pub stated : WriteRow → WriteShown
stated (on_sheet b sheet lent s) = s

abbrev pub WritesHold : List WriteRow → Type 0
WritesHold rows = map computed rows ≡ map stated rows

-- so many bytes as lent
abbrev nines : ℕ → List ℕ
nines n = replicate n 9

-- a copy, with so many bytes lent past it
abbrev copied : List ℕ → List ℕ → List ℕ → ℕ → WriteRow
copied b sheet copy past = on_sheet b sheet (nines (length copy) ++ nines past) (record { number = 0; count = length copy; copy = copy ++ nines past })

-- nothing written, with so many bytes lent
abbrev turned_back : List ℕ → List ℕ → ℕ → ℕ → WriteRow
turned_back b sheet room n = on_sheet b sheet (nines room) (record { number = n; count = 0; copy = nines room })

-- board T without a carrier
abbrev empty_t : List ℕ
empty_t = board_t 0 0 0 0

-- three zones, home point 2, the first and the last with the higher end first; these carriers and headings
abbrev other_way : ℕ → ℕ → ℕ → ℕ → ℕ → ℕ → List ℕ
other_way c h d g e f = 0 ∷ 16 ∷ 1 ∷ 3 ∷ 2 ∷ 3 ∷ (zone 1 0 c h ++ (zone 0 2 d g ++ zone 2 1 e f))

abbrev other_way_free : List ℕ
other_way_free = other_way 0 0 0 0 0 0

unfoldable pub write_rows : List WriteRow
write_rows =
    -- T and K with their own positions, and each with the other's
    copied empty_t (0 ∷ 0 ∷ []) empty_t 0 ∷
    copied board_k (14 ∷ 0 ∷ []) board_k 0 ∷
    copied empty_t (14 ∷ 0 ∷ []) board_k 0 ∷
    copied board_k (0 ∷ 0 ∷ []) empty_t 0 ∷
    -- either heading, in either zone; what the lent board holds doesn't count
    copied empty_t (15 ∷ 0 ∷ []) (board_t 7 1 0 0) 0 ∷
    copied (board_t 7 0 9 1) (18 ∷ 15 ∷ []) (board_t 9 0 7 1) 0 ∷
    -- in version 1 where every carrier fits one byte, whatever the lent board is in
    copied (wide_k 0 0 0) (0 ∷ 0 ∷ []) empty_t 0 ∷
    copied (wide_k 0 7 0) (14 ∷ 0 ∷ []) board_k 0 ∷
    copied (wide_k 1 7 0) (14 ∷ 0 ∷ []) board_k 0 ∷
    copied empty_t (510 ∷ 15 ∷ []) (board_t 255 0 7 1) 0 ∷
    copied empty_t (14 ∷ 511 ∷ []) (board_t 7 0 255 1) 0 ∷
    -- in version 2 where one doesn't; such a board comes back byte for byte
    copied empty_t (526 ∷ 0 ∷ []) (wide_k 1 7 0) 0 ∷
    copied (wide_k 1 7 0) (526 ∷ 0 ∷ []) (wide_k 1 7 0) 0 ∷
    copied empty_t (14 ∷ 512 ∷ []) (wide_t 0 7 0 1 0 0) 0 ∷
    copied empty_t (513 ∷ 0 ∷ []) (wide_k 1 0 1) 0 ∷
    copied empty_t (131071 ∷ 14 ∷ []) (wide_t 255 255 1 0 7 0) 0 ∷
    copied (wide_k 255 255 1) (131071 ∷ 0 ∷ []) (wide_k 255 255 1) 0 ∷
    -- each end, the home point and each zone in its place; a turning loop
    copied other_way_free (10 ∷ 13 ∷ 14 ∷ []) (other_way 5 0 6 1 7 0) 0 ∷
    copied (other_way 5 0 6 1 7 0) (0 ∷ 10 ∷ 13 ∷ []) (other_way 0 0 5 0 6 1) 0 ∷
    copied other_way_free (10 ∷ 13 ∷ 527 ∷ []) (0 ∷ 19 ∷ 2 ∷ 3 ∷ 2 ∷ 3 ∷ 1 ∷ 0 ∷ 0 ∷ 5 ∷ 0 ∷ 0 ∷ 2 ∷ 0 ∷ 6 ∷ 1 ∷ 2 ∷ 1 ∷ 1 ∷ 7 ∷ 1 ∷ []) 0 ∷
    copied loop_at_home (0 ∷ 10 ∷ 13 ∷ []) (laid_out 2 (free 0 1 ∷ zone 0 1 5 0 ∷ zone 0 0 6 1 ∷ [])) 0 ∷
    -- L over 255
    copied (1 ∷ 3 ∷ 2 ∷ 2 ∷ 0 ∷ 51 ∷ wide_zones_free 51) (526 ∷ replicate 50 0) (1 ∷ 3 ∷ 2 ∷ 2 ∷ 0 ∷ 51 ∷ 0 ∷ 1 ∷ 1 ∷ 7 ∷ 0 ∷ wide_zones_free 50) 0 ∷
    -- 6: a free zone with heading 1; 7: a carrier in two zones, with either heading; 6 before 7
    turned_back empty_t (1 ∷ 0 ∷ []) 14 6 ∷
    turned_back empty_t (0 ∷ 1 ∷ []) 14 6 ∷
    turned_back empty_t (526 ∷ 1 ∷ []) 16 6 ∷
    turned_back empty_t (14 ∷ 15 ∷ []) 14 7 ∷
    turned_back empty_t (14 ∷ 14 ∷ []) 14 7 ∷
    turned_back empty_t (526 ∷ 526 ∷ []) 16 7 ∷
    turned_back other_way_free (1 ∷ 14 ∷ 14 ∷ []) 18 6 ∷
    turned_back other_way_free (14 ∷ 14 ∷ 1 ∷ []) 18 6 ∷
    turned_back other_way_free (14 ∷ 0 ∷ 15 ∷ []) 18 7 ∷
    -- 7 and 263 are two carriers
    copied empty_t (14 ∷ 526 ∷ []) (wide_t 0 7 0 1 7 0) 0 ∷
    -- 39: a word over 131,071, more or fewer words than zones, too few bytes; before 6 and 7
    turned_back empty_t (131072 ∷ 0 ∷ []) 16 39 ∷
    turned_back empty_t (0 ∷ 131072 ∷ []) 16 39 ∷
    turned_back other_way_free (0 ∷ 0 ∷ 131072 ∷ []) 21 39 ∷
    turned_back empty_t (14 ∷ 0 ∷ 0 ∷ []) 18 39 ∷
    turned_back empty_t (14 ∷ []) 14 39 ∷
    turned_back empty_t [] 14 39 ∷
    turned_back empty_t (14 ∷ 0 ∷ []) 13 39 ∷
    turned_back empty_t (14 ∷ 0 ∷ []) 0 39 ∷
    turned_back empty_t (526 ∷ 0 ∷ []) 15 39 ∷
    turned_back empty_t (131072 ∷ 1 ∷ []) 16 39 ∷
    turned_back empty_t (1 ∷ 131072 ∷ []) 16 39 ∷
    turned_back empty_t (14 ∷ 14 ∷ []) 13 39 ∷
    turned_back empty_t (1 ∷ []) 14 39 ∷
    -- a bad board before all of these
    turned_back [] [] 0 1 ∷
    turned_back (board_t 7 2 0 0) (131072 ∷ []) 0 6 ∷
    turned_back (board_t 7 0 7 0) (14 ∷ 0 ∷ []) 14 7 ∷
    turned_back (headed 0 12 3 2 0 2) (1 ∷ 0 ∷ []) 14 3 ∷
    turned_back (headed 1 12 1 2 0 2) (14 ∷ 0 ∷ []) 14 2 ∷
    turned_back (headed 0 12 1 2 0 3) (14 ∷ 0 ∷ 0 ∷ []) 18 5 ∷
    turned_back (laid_out 2 (free 0 0 ∷ free 1 1 ∷ [])) [] 0 9 ∷
    -- lent bytes past the copy stay as lent
    copied empty_t (14 ∷ 0 ∷ []) board_k 6 ∷
    copied (wide_k 0 7 0) (14 ∷ 0 ∷ []) board_k 2 ∷
    copied empty_t (526 ∷ 0 ∷ []) (wide_k 1 7 0) 1 ∷
    on_sheet empty_t (14 ∷ 0 ∷ []) (nines 14 ++ (1 ∷ 2 ∷ 3 ∷ [])) (record { number = 0; count = 14; copy = board_k ++ (1 ∷ 2 ∷ 3 ∷ []) }) ∷ []

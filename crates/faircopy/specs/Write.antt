-- The writing of a fair copy (request b of document 02): a board's track with a position sheet as its position. 39, then 6 and 7 of the copy.
use Rattle.std.specs.Prelude.{ℕ, List, [], Bool, cond, not, ◌||◌, length, leb, ltb, eqb}
use Rattle.model.specs.Lists.{any_of}
use Rattle.model.specs.Track.{Track}
use Rattle.model.specs.Position.{Position}
use Rattle.model.specs.Accepted.{held_limit}
use Rattle.model.specs.Reading.{refusal, track_said}
use Rattle.faircopy.specs.BoardBytes.{copy_bytes}

-- what a write gives: the number, and the bytes that are stored from the start of what was lent; how many they are is the count
pub record WriteAnswer : Type 0 where
  pub number : ℕ
  pub written : List ℕ

-- nothing is stored
abbrev pub write_refused : ℕ → WriteAnswer
write_refused n = record { number = n; written = [] }

-- 39: the sheet isn't exactly Z words, a word is over 131,071, or fewer bytes are lent than the copy has
unfoldable pub unwritable : Track → Position → ℕ → Bool
unwritable t sheet copyRoom =
    not (eqb (length sheet) t.zones) || (any_of (leb held_limit) sheet || ltb copyRoom (length (copy_bytes t sheet)))

-- the reader's own rows of c, the copy's bytes, tested before a byte is stored
unfoldable pub write_tested : List ℕ → WriteAnswer
write_tested c = cond (eqb (refusal c) 0) (record { number = 0; written = c }) (write_refused (refusal c))

unfoldable pub write_in : Track → Position → ℕ → WriteAnswer
write_in t sheet copyRoom =
    let r = write_tested (copy_bytes t sheet) in
    cond (unwritable t sheet copyRoom) (write_refused 39) r

-- the write on a board in bytes, with this room lent for the copy: 1 to 9 of the board first
unfoldable pub write_of : List ℕ → Position → ℕ → WriteAnswer
write_of b sheet copyRoom =
    let r = write_in (track_said b) sheet copyRoom in
    cond (eqb (refusal b) 0) r (write_refused (refusal b))

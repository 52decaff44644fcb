-- The words that start at each point, and the words that come after each word, as rows of a table: row k of a table is a set of 192 words,
-- and word v is in it where number 192 × k + v is in the table.
use Rattle.std.specs.Prelude.{ℕ, ◌+◌, ◌*◌, ◌≤◌, ◌<◌, List, ◌≡◌, Bool, not, ◌&&◌, length, get_or, eqb, ltb}
use Rattle.model.specs.Track.{zone_of, rev}
use Rattle.queue.specs.WordSets.{in_set}

-- word v is in row k
abbrev pub in_row : List ℕ → ℕ → ℕ → Bool
in_row table k v = in_set table (192 * k + v)

-- the ends of at most 96 zones, at points below 64
pub record EndsSized (zones : ℕ) (ends : List ℕ) : Type 0 where
  pub few : zones ≤ 96
  pub both : 2 * zones ≤ length ends
  pub inside : (w : ℕ) → w < 2 * zones → get_or ends w 0 < 64

-- of the words below n, those that start at each point
pub record Starts (n : ℕ) (ends starts : List ℕ) : Type 0 where
  pub long : length starts ≡ 192
  pub row : (q v : ℕ) → q < 64 → v < 192 → in_row starts q v ≡ (ltb v n && eqb (get_or ends v 0) q)

-- the row of word w has the words of the point's row of starts, but for the two of the zone of w; all other rows are as they were
pub record RowFilled (starts : List ℕ) (point w : ℕ) (follows follows' : List ℕ) : Type 0 where
  pub row : (v : ℕ) → v < 192 → in_row follows' w v ≡ (in_row starts point v && not (eqb (zone_of v) (zone_of w)))
  pub others : (j v : ℕ) → (j ≡ w → ⊥) → v < 192 → in_row follows' j v ≡ in_row follows j v

-- word v comes after word w on the track: it starts where w leaves, in another zone
abbrev pub comes_after : List ℕ → ℕ → ℕ → Bool
comes_after ends w v = eqb (get_or ends v 0) (get_or ends (rev w) 0) && not (eqb (zone_of v) (zone_of w))

-- for each word below n those of a track of so many zones that come after it; what other rows hold is free
pub record Follows (zones n : ℕ) (ends follows : List ℕ) : Type 0 where
  pub row : (w v : ℕ) → w < n → v < 192 → in_row follows w v ≡ (ltb v (2 * zones) && comes_after ends w v)

-- the arrays of a board of so many zones, and its table
pub record BoardTable (zones : ℕ) (ends p follows : List ℕ) : Type 0 where
  pub few : zones ≤ 96
  pub each : length p ≡ zones
  pub both : length ends ≡ 2 * zones
  pub rows : length follows ≡ 576
  pub filled : Follows zones (2 * zones) ends follows

-- What the reader's inner functions say: of one byte, of a zone's bytes in either version, of rows 1 to 5 and of rows 8 and 9 at once, and of the
-- ways and the points where two words start.
-- Nothing outside this crate speaks of these.
use Rattle.std.specs.Prelude.{ℕ, ◌*◌, ◌≤◌, ◌<◌, List, map, ◌≡◌, Bool, true, cond, leb, eqb}
use Rattle.model.specs.Lists.{numbers_below, any_of, how_many}
use Rattle.model.specs.Track.{rev}
use Rattle.model.specs.Reading.{Whole, byte, end_a, end_b, carrier_in, heading_in, wide, end_said, points_said, home_said, zones_said, too_short, wrong_length, wrong_version, out_of_range, wrong_count, under_two, apart}
use Rattle.bits.specs.Sets.{has_bit}
use Rattle.reach.specs.Ways.{WaysOver}
use Rattle.board.specs.declared.input.Zone.{Zone}

-- a byte that was read
pub record ByteAt (b : List ℕ) (i r : ℕ) : Type 0 where
  pub is : r ≡ byte b i
  pub small : r < 256

-- z is one of the zones of a whole board, whose carriers have two bytes or not
pub record ZoneIn (b : List ℕ) (w : Bool) (z : ℕ) : Type 0 where
  pub whole : Whole b
  pub version : w ≡ wide b
  pub inside : z < zones_said b
  pub few : z < 256

-- a zone that was read
pub record ZoneAt (b : List ℕ) (z : ℕ) (r : Zone) : Type 0 where
  pub a_is : r.a ≡ end_a b z
  pub b_is : r.b ≡ end_b b z
  pub carrier_is : r.carrier ≡ carrier_in b z
  pub heading_is : r.heading ≡ heading_in b z
  pub carrier_small : r.carrier < 65536
  pub heading_small : r.heading < 256

-- carrier c stands in a zone before z
unfoldable pub stood_before : List ℕ → ℕ → ℕ → Bool
stood_before b c z = any_of (λ y. eqb (carrier_in b y) c) (numbers_below z)

-- rows 1 to 5
unfoldable pub head_refusal : List ℕ → ℕ
head_refusal b = cond (too_short b) 1 (cond (wrong_length b) 2 (cond (wrong_version b) 3 (cond (out_of_range b) 4 (cond (wrong_count b) 5 0))))

-- rows 8 and 9, where none before them holds
unfoldable pub link_refusal : List ℕ → ℕ
link_refusal b = cond (any_of (under_two b) (numbers_below (points_said b))) 8 (cond (apart b) 9 0)

-- what rows 4 and 6 leave: every number of a point is below P, and P is at most 64
pub record Inside (b : List ℕ) : Type 0 where
  pub points_most : points_said b ≤ 64
  pub home_in : home_said b < points_said b
  pub word_in : (w : ℕ) → w < 2 * zones_said b → end_said b w < points_said b

-- the ways are those of the first w words
abbrev pub WaysOf : List ℕ → List ℕ → ℕ → Type 0
WaysOf b ways w = WaysOver (end_said b) (λ v. end_said b (rev v)) (λ v. true) w ways

-- how many of the first w words start at point p
abbrev pub starts_at : List ℕ → ℕ → ℕ → ℕ
starts_at b w p = how_many (eqb p) (map (end_said b) (numbers_below w))

-- the points where two words or more start
pub record Doubled (b : List ℕ) (twice : ℕ) : Type 0 where
  pub holds : (p : ℕ) → p < 64 → has_bit twice p ≡ leb 2 (starts_at b (2 * zones_said b) p)

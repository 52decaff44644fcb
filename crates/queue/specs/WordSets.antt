-- Sets of numbers in blocks of 64: number n is in the set where bit n % 64 of block n / 64 is 1. A set of words is one, of three blocks.
use Rattle.std.specs.Prelude.{ℕ, ◌/◌, ◌%◌, ◌≤◌, List, ◌≡◌, Bool, ◌&&◌, ◌||◌, length, get_or, replicate, eqb, ltb}
use Rattle.model.specs.Track.{zone_of}
use Rattle.model.specs.Position.{Position, is_free}
use Rattle.bits.specs.Sets.{has_bit}

-- number n is in the set
abbrev pub in_set : List ℕ → ℕ → Bool
in_set set n = has_bit (get_or set (n / 64) 0) (n % 64)

-- the set with one number more
pub record Added (n : ℕ) (set set' : List ℕ) : Type 0 where
  pub has : (v : ℕ) → in_set set' v ≡ (in_set set v || eqb v n)

-- the set with both words of a zone
pub record ZoneAdded (zone : ℕ) (set set' : List ℕ) : Type 0 where
  pub has : (v : ℕ) → in_set set' v ≡ (in_set set v || eqb (zone_of v) zone)

-- what the filling asks: at most 96 zones, and no word in the set of three blocks
pub record Fillable (p : Position) (set : List ℕ) : Type 0 where
  pub few : length p ≤ 96
  pub no_word : set ≡ replicate 3 0

-- the words of the free zones, and no others
pub record FreeWords (p : Position) (set : List ℕ) : Type 0 where
  pub has : (v : ℕ) → in_set set v ≡ (ltb (zone_of v) (length p) && is_free p (zone_of v))

-- A set of numbers below 64 as one 64-bit word: number p is in it where bit p is 1. Such are sets of points, and blocks of 64 words.
use Rattle.std.specs.Prelude.{ℕ, ◌-◌, ◌/◌, ◌%◌, ◌^◌, ◌<◌, ◌≡◌, Bool, true, false, eqb}
use Rattle.std.specs.Int.Bits.{bit_and}

-- number p is in the set s
unfoldable pub has_bit : ℕ → ℕ → Bool
has_bit s p = eqb (s / 2 ^ p % 2) 1

-- the numbers of s that are not in t, of those below 64
unfoldable pub set_minus : ℕ → ℕ → ℕ
set_minus s t = bit_and s (2 ^ 64 - 1 - t)

-- the lowest number of a set
pub record Lowest (s p : ℕ) : Type 0 where
  pub inside : p < 64
  pub there : has_bit s p ≡ true
  pub least : (q : ℕ) → q < p → has_bit s q ≡ false

-- the set without its lowest number
pub record ButLowest (s r : ℕ) : Type 0 where
  pub rest : (p : ℕ) → Lowest s p → r ≡ set_minus s (2 ^ p)

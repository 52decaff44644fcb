-- A set of numbers below k holds all of them exactly when its size is k.
-- A number that is missing could be added, and the set would have more than k numbers.
use Prim.Native.Nat.{ℕ, ◌-◌, ◌^◌, ◌≤◌, ◌<◌}
use mathlib.Core.Path.{◌≡◌, refl, sym, ap, ◌∙◌}
use mathlib.Core.Bool.{Bool, true, false}
use native.Mathlib.Nat.{lt_of_lt_of_le}
use native.Mathlib.Omega.{arith}
use lib.Bits.{bit_or, or_lt}
use lib.Count.{ones, ones-le, ones-ones}
use lib.Pow.{pow-lt, pow_mono, ones_lt}
use Rattle.bits.specs.Sets.{has_bit}
use Rattle.bits.proofs.BitLaws.{bit_all, same_bits}
use Rattle.bits.proofs.SizeLaws.{size_more}

-- none missing
pub full_all : (k s p : ℕ) → k ≤ 64 → s < 2 ^ k → ones s ≡ k → p < k → has_bit s p ≡ true
full_all k s p few h e l = go (has_bit s p) refl
  where
    go : (b : Bool) → has_bit s p ≡ b → has_bit s p ≡ true
    go true t = t
    go false t =
        let one : 2 ^ p < 2 ^ k = pow-lt l in
        let wide : 2 ^ k ≤ 2 ^ 64 = pow_mono few in
        let more : ones (bit_or s (2 ^ p)) ≤ k = ones-le k (bit_or s (2 ^ p)) (or_lt k s (2 ^ p) h one) in
        absurd (omega (arith, size_more s p (lt_of_lt_of_le h wide) (lt_of_lt_of_le l few) t))

pub all_full : (k s : ℕ) → s < 2 ^ k → ((p : ℕ) → p < k → has_bit s p ≡ true) → ones s ≡ k
all_full k s h all = ap ones (same_bits k s (2 ^ k - 1) h (ones_lt k) (λ p l. all p l ∙ sym (bit_all k p l))) ∙ ones-ones k

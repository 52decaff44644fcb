-- The count of zeros below the lowest set bit is the place of that bit, so it is the lowest number of the set; s and s - 1 share all numbers of s but that one.
-- By induction on the number of bits, and on the place, one digit at a time.
use Prim.Native.Nat.{ℕ, zero, suc, ◌-◌, ◌/◌, ◌%◌, ◌^◌, ◌<◌, zero-le, suc-le-suc}
use mathlib.Core.Path.{◌≡◌, refl, sym, ap, ap₂, ◌∙◌}
use mathlib.Core.Bool.{Bool, true, false, not, ◌&&◌, and-true, and_self}
use native.Mathlib.Nat.{lt_of_le_of_lt}
use native.Mathlib.Omega.{arith}
use borrow.Author.Tests.{eqb-true, eqb-false}
use lib.Bits.{bit_and, and_le_l}
use lib.Dec.{eqb, eqb-suc-zero, eqb-suc-suc}
use lib.Count.{count_trailing_zeros, under}
use Rattle.bits.specs.Sets.{has_bit, set_minus, Lowest, ButLowest}
use Rattle.bits.proofs.BitLaws.{bit_first, bit_next, bit_and_lem, bit_minus, bit_alone, same_bits, half_below, minus_word, alone_other, alone_word}

-- p is the lowest of k bits of s
record LowestUnder (k s p : ℕ) : Type 0 where
  inside : p < k
  there : has_bit s p ≡ true
  least : (q : ℕ) → q < p → has_bit s q ≡ false

-- one digit more below
first_under : (k s d t : ℕ) → s % 2 ≡ d → (d ≡ 0 → LowestUnder k (s / 2) t) → LowestUnder (suc k) s (under d t)
first_under k s zero t e rest = record {
  inside = suc-le-suc (rest refl).inside;
  there = bit_next s t ∙ (rest refl).there;
  least = low;
}
  where
    low : (q : ℕ) → q < suc t → has_bit s q ≡ false
    low zero l = bit_first s ∙ ap (λ (x : ℕ). eqb x 1) e
    low (suc q) l = bit_next s q ∙ (rest refl).least q (omega arith)
first_under k s (suc zero) t e rest = record {
  inside = omega arith;
  there = bit_first s ∙ ap (λ (x : ℕ). eqb x 1) e;
  least = λ q l. absurd (omega arith);
}
first_under k s (suc (suc d)) t e rest = absurd (omega arith)

trailing_first : (k s : ℕ) → 0 < s → s < 2 ^ k → LowestUnder k s (count_trailing_zeros k s)
unfolding count_trailing_zeros
trailing_first zero s a h = absurd (omega arith)
trailing_first (suc k) s a h =
    first_under k s (s % 2) (count_trailing_zeros k (s / 2)) refl (λ e. trailing_first k (s / 2) (omega arith) (half_below k s h))

pub trailing_lowest : (s : ℕ) → 0 < s → s < 2 ^ 64 → Lowest s (count_trailing_zeros 64 s)
trailing_lowest s a h =
    let f = trailing_first 64 s a h in
    record { inside = f.inside; there = f.there; least = f.least }

-- the lowest digit by the lowest bit
odd : (s : ℕ) → has_bit s 0 ≡ true → s % 2 ≡ 1
odd s e = eqb-true (s % 2) 1 (sym (bit_first s) ∙ e)

even : (s : ℕ) → has_bit s 0 ≡ false → s % 2 ≡ 0
even s e = let n = eqb-false (s % 2) 1 (sym (bit_first s) ∙ e) in omega (arith, n)

-- of the bits of s, those of s - 1 are all but the lowest
shared : (s p q : ℕ) → has_bit s p ≡ true → ((j : ℕ) → j < p → has_bit s j ≡ false) → (has_bit s q && has_bit (s - 1) q) ≡ (has_bit s q && not (eqb q p))
shared s zero zero e none =
    let d : s % 2 ≡ 1 = odd s e in
    let z : (s - 1) % 2 ≡ 0 = omega arith in
    ap (λ (b : Bool). has_bit s 0 && b) (bit_first (s - 1) ∙ ap (λ (x : ℕ). eqb x 1) z)
shared s zero (suc q) e none =
    let d : s % 2 ≡ 1 = odd s e in
    let h : (s - 1) / 2 ≡ s / 2 = omega arith in
    let same : has_bit (s - 1) (suc q) ≡ has_bit s (suc q) = bit_next (s - 1) q ∙ ap (λ (x : ℕ). has_bit x q) h ∙ sym (bit_next s q) in
    ap (λ (b : Bool). has_bit s (suc q) && b) same ∙ and_self (has_bit s (suc q)) ∙ sym (and-true (has_bit s (suc q)))
    ∙ ap (λ (b : Bool). has_bit s (suc q) && not b) (sym (eqb-suc-zero q))
shared s (suc p) zero e none = rw (none 0 (suc-le-suc zero-le))
shared s (suc p) (suc q) e none =
    let d : s % 2 ≡ 0 = even s (none 0 (suc-le-suc zero-le)) in
    let h : (s - 1) / 2 ≡ s / 2 - 1 = omega arith in
    ap₂ ◌&&◌ (bit_next s q) (bit_next (s - 1) q ∙ ap (λ (x : ℕ). has_bit x q) h)
    ∙ shared (s / 2) p q (sym (bit_next s p) ∙ e) (λ j l. sym (bit_next s j) ∙ none (suc j) (suc-le-suc l))
    ∙ ap₂ (λ (a b : Bool). a && not b) (sym (bit_next s q)) (sym (eqb-suc-suc q p))

pub and_but_lowest : (s : ℕ) → s < 2 ^ 64 → ButLowest s (bit_and s (s - 1))
and_but_lowest s h = record { rest = rest }
  where
    rest : (p : ℕ) → Lowest s p → bit_and s (s - 1) ≡ set_minus s (2 ^ p)
    rest p low =
        same_bits 64 (bit_and s (s - 1)) (set_minus s (2 ^ p)) (lt_of_le_of_lt (and_le_l s (s - 1)) h) (minus_word s (2 ^ p) h)
        (λ q l.
        bit_and_lem s (s - 1) q ∙ shared s p q low.there low.least ∙ ap (λ (b : Bool). has_bit s q && not b) (sym (bit_alone p q))
        ∙ sym (bit_minus s (2 ^ p) q h (alone_word p low.inside)))

-- without the lowest number, the others stay
pub others_stay : (s p : ℕ) → s < 2 ^ 64 → Lowest s p → (q : ℕ) → (q ≡ p → ⊥) → has_bit s q ≡ has_bit (set_minus s (2 ^ p)) q
others_stay s p h low q d =
    sym (bit_minus s (2 ^ p) q h (alone_word p low.inside) ∙ ap (λ (b : Bool). has_bit s q && not b) (alone_other p q d) ∙ and-true (has_bit s q))

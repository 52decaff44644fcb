-- What the bits of a number are after each operation on it, and that a word is known by its bits.
-- A bit is the lowest digit after so many halvings: the laws go by one digit, and by induction on the place.
use Prim.Native.Nat.{ℕ, zero, suc, ◌-◌, ◌*◌, ◌/◌, ◌%◌, ◌^◌, ◌≤◌, ◌<◌, zero-le, suc-le-suc, min, max}
use mathlib.Core.Path.{◌≡◌, refl, sym, ap, ap₂, ◌∙◌}
use mathlib.Core.Logic.{◌⊎◌}
use mathlib.Core.Bool.{Bool, true, false, not, ◌&&◌, ◌||◌, and-false, or-true, true≢false}
use native.Mathlib.Nat.{pow-suc, lt_of_le_of_lt}
use native.Mathlib.Numerals.{one-add}
use native.Mathlib.Omega.{arith}
use borrow.Author.Tests.{eqb-true, eq-eqb, ne_eqb, ltb-true, ltb-false, not-true}
use lib.Dec.{eqb, ltb, eqb-zero-suc, eqb-suc-zero, eqb-suc-suc}
use lib.Arith.{digits_mod}
use lib.Pow.{shr-shr, pow_pos, pow-lt}
use lib.Bits.{bit_and, bit_or, and_le_l, and_shr, or_shr, and_step, or_step}
use Rattle.model.proofs.BoolLaws.{and_left, and_right, or_cases}
use Rattle.bits.specs.Sets.{has_bit, set_minus}

-- the lowest bit, and the others one place down
pub bit_first : (s : ℕ) → has_bit s 0 ≡ eqb (s % 2) 1
unfolding has_bit
bit_first s = let whole : s / 1 ≡ s = omega arith in ap (λ (x : ℕ). eqb (x % 2) 1) whole

pub bit_next : (s p : ℕ) → has_bit s (suc p) ≡ has_bit (s / 2) p
unfolding has_bit
bit_next s p = ap (λ (x : ℕ). eqb (x % 2) 1) (ap (λ (k : ℕ). s / 2 ^ k) (sym (one-add p)) ∙ sym (shr-shr s 1 p))

-- the tests of one digit
digit_or : (u v : ℕ) → u < 2 → v < 2 → eqb (max u v) 1 ≡ (eqb u 1 || eqb v 1)
digit_or zero zero a b = refl
digit_or zero (suc zero) a b = refl
digit_or (suc zero) zero a b = refl
digit_or (suc zero) (suc zero) a b = refl
digit_or zero (suc (suc v)) a b = absurd (omega arith)
digit_or (suc zero) (suc (suc v)) a b = absurd (omega arith)
digit_or (suc (suc u)) v a b = absurd (omega arith)

digit_and : (u v : ℕ) → u < 2 → v < 2 → eqb (min u v) 1 ≡ (eqb u 1 && eqb v 1)
digit_and zero zero a b = refl
digit_and zero (suc zero) a b = refl
digit_and (suc zero) zero a b = refl
digit_and (suc zero) (suc zero) a b = refl
digit_and zero (suc (suc v)) a b = absurd (omega arith)
digit_and (suc zero) (suc (suc v)) a b = absurd (omega arith)
digit_and (suc (suc u)) v a b = absurd (omega arith)

digit_not : (u : ℕ) → u < 2 → eqb (1 - u) 1 ≡ not (eqb u 1)
digit_not zero a = refl
digit_not (suc zero) a = refl
digit_not (suc (suc u)) a = absurd (omega arith)

digit_same : (u v : ℕ) → u < 2 → v < 2 → eqb u 1 ≡ eqb v 1 → u ≡ v
digit_same zero zero a b e = refl
digit_same zero (suc zero) a b e = eqb-true 0 1 e
digit_same (suc zero) zero a b e = sym (eqb-true 0 1 (sym e))
digit_same (suc zero) (suc zero) a b e = refl
digit_same zero (suc (suc v)) a b e = absurd (omega arith)
digit_same (suc zero) (suc (suc v)) a b e = absurd (omega arith)
digit_same (suc (suc u)) v a b e = absurd (omega arith)

or_digit : (s t : ℕ) → eqb (bit_or s t % 2) 1 ≡ (eqb (s % 2) 1 || eqb (t % 2) 1)
or_digit s t =
    ap (λ (x : ℕ). eqb (x % 2) 1) (or_step s t) ∙ ap (λ (x : ℕ). eqb x 1) (digits_mod (bit_or (s / 2) (t / 2)) (omega arith))
    ∙ digit_or (s % 2) (t % 2) (omega arith) (omega arith)

and_digit : (s t : ℕ) → eqb (bit_and s t % 2) 1 ≡ (eqb (s % 2) 1 && eqb (t % 2) 1)
and_digit s t =
    ap (λ (x : ℕ). eqb (x % 2) 1) (and_step s t) ∙ ap (λ (x : ℕ). eqb x 1) (digits_mod (bit_and (s / 2) (t / 2)) (omega arith))
    ∙ digit_and (s % 2) (t % 2) (omega arith) (omega arith)

-- numbers of either set; numbers of both
pub bit_or_lem : (s t p : ℕ) → has_bit (bit_or s t) p ≡ (has_bit s p || has_bit t p)
unfolding has_bit
bit_or_lem s t p = ap (λ (x : ℕ). eqb (x % 2) 1) (or_shr s t p) ∙ or_digit (s / 2 ^ p) (t / 2 ^ p)

pub bit_and_lem : (s t p : ℕ) → has_bit (bit_and s t) p ≡ (has_bit s p && has_bit t p)
unfolding has_bit
bit_and_lem s t p = ap (λ (x : ℕ). eqb (x % 2) 1) (and_shr s t p) ∙ and_digit (s / 2 ^ p) (t / 2 ^ p)

-- numbers not in a set, of those below k
pub bit_complement : (k t p : ℕ) → t < 2 ^ k → p < k → has_bit (2 ^ k - 1 - t) p ≡ not (has_bit t p)
bit_complement zero t p h l = absurd (omega arith)
bit_complement (suc k) t zero h l =
    let two : 2 ^ suc k ≡ 2 ^ k * 2 = pow-suc 2 k in
    let flip : (2 ^ suc k - 1 - t) % 2 ≡ 1 - t % 2 = omega arith in
    bit_first _ ∙ ap (λ (x : ℕ). eqb x 1) flip ∙ digit_not (t % 2) (omega arith) ∙ ap not (sym (bit_first t))
bit_complement (suc k) t (suc p) h l =
    let two : 2 ^ suc k ≡ 2 ^ k * 2 = pow-suc 2 k in
    let halves : (2 ^ suc k - 1 - t) / 2 ≡ 2 ^ k - 1 - t / 2 = omega arith in
    bit_next _ p ∙ ap (λ (x : ℕ). has_bit x p) halves ∙ bit_complement k (t / 2) p (omega arith) (omega arith) ∙ ap not (sym (bit_next t p))

-- no numbers
pub bit_none : (p : ℕ) → has_bit 0 p ≡ false
bit_none zero = bit_first 0
bit_none (suc p) = bit_next 0 p ∙ bit_none p

-- all numbers below k
pub bit_all : (k p : ℕ) → p < k → has_bit (2 ^ k - 1) p ≡ true
bit_all k p l =
    let whole : 2 ^ k - 1 - 0 ≡ 2 ^ k - 1 = omega arith in
    ap (λ (x : ℕ). has_bit x p) (sym whole) ∙ bit_complement k 0 p (pow_pos k) l ∙ ap not (bit_none p)

-- one number
pub bit_alone : (p q : ℕ) → has_bit (2 ^ p) q ≡ eqb q p
bit_alone zero zero = bit_first 1
bit_alone zero (suc q) = bit_next 1 q ∙ bit_none q ∙ sym (eqb-suc-zero q)
bit_alone (suc p) zero =
    let two : 2 ^ suc p ≡ 2 ^ p * 2 = pow-suc 2 p in
    let even : 2 ^ suc p % 2 ≡ 0 = omega arith in
    bit_first (2 ^ suc p) ∙ ap (λ (x : ℕ). eqb x 1) even ∙ sym (eqb-zero-suc p)
bit_alone (suc p) (suc q) =
    let two : 2 ^ suc p ≡ 2 ^ p * 2 = pow-suc 2 p in
    let half : 2 ^ suc p / 2 ≡ 2 ^ p = omega arith in
    bit_next (2 ^ suc p) q ∙ ap (λ (x : ℕ). has_bit x q) half ∙ bit_alone p q ∙ sym (eqb-suc-suc q p)

pub half_below : (k s : ℕ) → s < 2 ^ suc k → s / 2 < 2 ^ k
half_below k s h = let two : 2 ^ suc k ≡ 2 ^ k * 2 = pow-suc 2 k in omega arith

-- a word of k bits has none at k or above
pub bit_above : (k s p : ℕ) → s < 2 ^ k → k ≤ p → has_bit s p ≡ false
bit_above zero s p h l = let nothing : s ≡ 0 = omega arith in ap (λ (x : ℕ). has_bit x p) nothing ∙ bit_none p
bit_above (suc k) s zero h l = absurd (omega arith)
bit_above (suc k) s (suc p) h l = bit_next s p ∙ bit_above k (s / 2) p (half_below k s h) (omega arith)

-- two words with the same bits are equal
pub same_bits : (k s t : ℕ) → s < 2 ^ k → t < 2 ^ k → ((p : ℕ) → p < k → has_bit s p ≡ has_bit t p) → s ≡ t
same_bits zero s t h g e = omega arith
same_bits (suc k) s t h g e =
    let low : s % 2 ≡ t % 2 = digit_same (s % 2) (t % 2) (omega arith) (omega arith) (sym (bit_first s) ∙ e 0 (omega arith) ∙ bit_first t) in
    let high : s / 2 ≡ t / 2 = same_bits k (s / 2) (t / 2) (half_below k s h) (half_below k t g) (λ p l. sym (bit_next s p) ∙ e (suc p) (omega arith) ∙ bit_next t p) in
    omega arith

-- a word that has no bit at k or above is one of k bits
pub word_of_bits : (n k s : ℕ) → s < 2 ^ n → ((p : ℕ) → k ≤ p → has_bit s p ≡ false) → s < 2 ^ k
word_of_bits n zero s h none =
    let nothing : s ≡ 0 = same_bits n s 0 h (pow_pos n) (λ p l. none p zero-le ∙ sym (bit_none p)) in omega arith
word_of_bits n (suc k) s h none =
    let two : 2 ^ suc k ≡ 2 ^ k * 2 = pow-suc 2 k in
    let half : s / 2 < 2 ^ k = word_of_bits n k (s / 2) (omega arith) (λ p l. sym (bit_next s p) ∙ none (suc p) (suc-le-suc l)) in
    omega arith

-- the numbers of s that are not in t
pub bit_minus : (s t p : ℕ) → s < 2 ^ 64 → t < 2 ^ 64 → has_bit (set_minus s t) p ≡ (has_bit s p && not (has_bit t p))
unfolding set_minus
bit_minus s t p h g = bit_and_lem s (2 ^ 64 - 1 - t) p ∙ go (ltb p 64) refl
  where
    go : (b : Bool) → ltb p 64 ≡ b → (has_bit s p && has_bit (2 ^ 64 - 1 - t) p) ≡ (has_bit s p && not (has_bit t p))
    go true e = ap (λ (b : Bool). has_bit s p && b) (bit_complement 64 t p g (ltb-true p 64 e))
    go false e = rw (bit_above 64 s p h (ltb-false p 64 e))

-- one number more, one number fewer
pub bit_with : (s p q : ℕ) → has_bit (bit_or s (2 ^ p)) q ≡ (has_bit s q || eqb q p)
bit_with s p q = bit_or_lem s (2 ^ p) q ∙ ap (λ (b : Bool). has_bit s q || b) (bit_alone p q)

pub minus_word : (s t : ℕ) → s < 2 ^ 64 → set_minus s t < 2 ^ 64
unfolding set_minus
minus_word s t h = lt_of_le_of_lt (and_le_l s (2 ^ 64 - 1 - t)) h

-- the same as facts: where a number is after each operation, and where it came from
module _ (s t p : ℕ) where
  pub in_or : has_bit (bit_or s t) p ≡ true → (has_bit s p ≡ true) ⊎ (has_bit t p ≡ true)
  in_or e = or_cases (has_bit s p) (has_bit t p) (sym (bit_or_lem s t p) ∙ e)

  pub or_left : has_bit s p ≡ true → has_bit (bit_or s t) p ≡ true
  or_left e = bit_or_lem s t p ∙ ap (λ (b : Bool). b || has_bit t p) e

  pub or_right : has_bit t p ≡ true → has_bit (bit_or s t) p ≡ true
  or_right e = bit_or_lem s t p ∙ ap (λ (b : Bool). has_bit s p || b) e ∙ or-true (has_bit s p)

  module _ (h : s < 2 ^ 64) (g : t < 2 ^ 64) where
    pub minus_in : has_bit (set_minus s t) p ≡ true → has_bit s p ≡ true
    minus_in e = and_left (has_bit s p) (not (has_bit t p)) (sym (bit_minus s t p h g) ∙ e)

    pub minus_not_in : has_bit (set_minus s t) p ≡ true → has_bit t p ≡ false
    minus_not_in e = not-true (has_bit t p) (and_right (has_bit s p) (not (has_bit t p)) (sym (bit_minus s t p h g) ∙ e))

    pub minus_gone : has_bit t p ≡ true → has_bit (set_minus s t) p ≡ false
    minus_gone e = bit_minus s t p h g ∙ ap (λ (b : Bool). has_bit s p && not b) e ∙ and-false (has_bit s p)

    pub in_minus : has_bit s p ≡ true → has_bit t p ≡ false → has_bit (set_minus s t) p ≡ true
    in_minus e n = bit_minus s t p h g ∙ ap₂ (λ (a b : Bool). a && not b) e n

    -- where nothing of s is outside t
    pub minus_none : set_minus s t ≡ 0 → has_bit s p ≡ true → has_bit t p ≡ true
    minus_none z e = go (has_bit t p) refl
      where
        go : (b : Bool) → has_bit t p ≡ b → has_bit t p ≡ true
        go true k = k
        go false k = absurd (true≢false (sym (in_minus e k) ∙ ap (λ (x : ℕ). has_bit x p) z ∙ bit_none p))

pub alone_there : (p : ℕ) → has_bit (2 ^ p) p ≡ true
alone_there p = bit_alone p p ∙ eq-eqb p p refl

pub alone_only : (p q : ℕ) → has_bit (2 ^ p) q ≡ true → q ≡ p
alone_only p q e = eqb-true q p (sym (bit_alone p q) ∙ e)

pub alone_other : (p q : ℕ) → (q ≡ p → ⊥) → has_bit (2 ^ p) q ≡ false
alone_other p q n = bit_alone p q ∙ ne_eqb q p n

pub alone_word : (p : ℕ) → p < 64 → 2 ^ p < 2 ^ 64
alone_word p l = pow-lt l

-- a 1 shifted
pub shifted_one : (p : ℕ) → p < 64 → 1 * 2 ^ p % 2 ^ 64 ≡ 2 ^ p
shifted_one p l = let fits : 2 ^ p < 2 ^ 64 = alone_word p l in omega arith

-- a number of a word of k bits is below k
pub bit_below : (k s p : ℕ) → s < 2 ^ k → has_bit s p ≡ true → p < k
bit_below k s p h e = go (ltb p k) refl
  where
    go : (b : Bool) → ltb p k ≡ b → p < k
    go true t = ltb-true p k t
    go false t = absurd (true≢false (sym e ∙ bit_above k s p h (ltb-false p k t)))

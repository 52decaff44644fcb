-- How many numbers are in a set: the count of set bits says it, sets apart add up, a number put in makes one more, and one taken away one fewer.
-- Digit by digit: the count is the lowest digit and the count of the rest.
use Prim.Native.Nat.{ℕ, zero, suc, ◌+◌, ◌*◌, ◌/◌, ◌%◌, ◌^◌, ◌≤◌, ◌<◌, min, max}
use mathlib.Core.Path.{◌≡◌, refl, sym, ap, ◌∙◌, fun_ext}
use mathlib.Core.List.{List}
use mathlib.Core.Bool.{Bool, true, false, not, ◌&&◌, ◌||◌, true≢false}
use native.Mathlib.Nat.{pow-suc}
use native.Mathlib.Omega.{arith}
use lib.ListN.{length}
use lib.Dec.{eqb}
use lib.Arith.{bin_ind}
use lib.Bits.{bit_and, bit_or, and_step, or_step, and_lt, or_lt}
use lib.Pow.{pow_pos}
use lib.Count.{ones, ones_step}
use Rattle.model.specs.Lists.{count_up, numbers_below, cons_if, keep, how_many}
use Rattle.bits.specs.Sets.{has_bit, set_minus}
use Rattle.bits.proofs.BitLaws.{bit_first, bit_next, bit_none, bit_and_lem, bit_or_lem, bit_minus, half_below, word_of_bits, same_bits, minus_word, minus_not_in, alone_only, alone_other, alone_word, bit_below}

length_cons_if : (b : Bool) (x y : ℕ) (k l : List ℕ) → length k ≡ length l → length (cons_if b x k) ≡ length (cons_if b y l)
length_cons_if true x y k l e = ap suc e
length_cons_if false x y k l e = e

-- a count over numbers one higher is a count of the test one higher
count_up_lem : (f : ℕ → Bool) (j n : ℕ) → how_many f (count_up (suc j) n) ≡ how_many (λ p. f (suc p)) (count_up j n)
count_up_lem f j zero = refl
count_up_lem f j (suc n) =
    length_cons_if (f (suc j)) (suc j) j (keep f (count_up (suc (suc j)) n)) (keep (λ p. f (suc p)) (count_up (suc j) n)) (count_up_lem f (suc j) n)

-- one more where the digit is 1
length_digit : (d x : ℕ) (l : List ℕ) → d < 2 → length (cons_if (eqb d 1) x l) ≡ d + length l
length_digit zero x l h = omega arith
length_digit (suc zero) x l h = omega arith
length_digit (suc (suc d)) x l h = absurd (omega arith)

pub none_set : ones 0 ≡ 0
unfolding ones
none_set = refl

-- the count of set bits is how many numbers are in the set
pub size_count : (k s : ℕ) → s < 2 ^ k → ones s ≡ how_many (has_bit s) (numbers_below k)
size_count zero s h = let nothing : s ≡ 0 = omega arith in ap ones nothing ∙ none_set
size_count (suc k) s h =
    let rest : ones (s / 2) ≡ how_many (has_bit (s / 2)) (numbers_below k) = size_count k (s / 2) (half_below k s h) in
    let shifted : how_many (has_bit (s / 2)) (numbers_below k) ≡ how_many (has_bit s) (count_up 1 k) =
    ap (λ (f : ℕ → Bool). how_many f (numbers_below k)) (fun_ext λ p. sym (bit_next s p)) ∙ sym (count_up_lem (has_bit s) 0 k) in
    ones_step s ∙ ap (λ (n : ℕ). s % 2 + n) (rest ∙ shifted)
    ∙ sym (length_digit (s % 2) 0 (keep (has_bit s) (count_up 1 k)) (omega arith))
    ∙ ap (λ (b : Bool). length (cons_if b 0 (keep (has_bit s) (count_up 1 k)))) (sym (bit_first s))

-- where no number is at k or above, the numbers below k are all
pub size_below : (k s : ℕ) → s < 2 ^ 64 → ((p : ℕ) → k ≤ p → has_bit s p ≡ false) → ones s ≡ how_many (has_bit s) (numbers_below k)
size_below k s h none = size_count k s (word_of_bits 64 k s h none)

pub count_within : (k s : ℕ) → s < 2 ^ 64 → ((p : ℕ) → k ≤ p → has_bit s p ≡ false) → how_many (has_bit s) (numbers_below 64) ≡ how_many (has_bit s) (numbers_below k)
count_within k s h none = sym (size_count 64 s h) ∙ size_below k s h none

-- numbers of either and numbers of both
size_both : (s t : ℕ) → ones (bit_or s t) + ones (bit_and s t) ≡ ones s + ones t
size_both = bin_ind (λ (n : ℕ). (t : ℕ) → ones (bit_or n t) + ones (bit_and n t) ≡ ones n + ones t) (λ t. omega arith) step
  where
    step : (n : ℕ) → ((t : ℕ) → ones (bit_or (n / 2) t) + ones (bit_and (n / 2) t) ≡ ones (n / 2) + ones t)
        → (t : ℕ) → ones (bit_or n t) + ones (bit_and n t) ≡ ones n + ones t
    step n ih t =
        let or : bit_or n t ≡ bit_or (n / 2) (t / 2) * 2 + max (n % 2) (t % 2) = or_step n t in
        let and : bit_and n t ≡ bit_and (n / 2) (t / 2) * 2 + min (n % 2) (t % 2) = and_step n t in
        let or-half : bit_or n t / 2 ≡ bit_or (n / 2) (t / 2) = omega arith in
        let and-half : bit_and n t / 2 ≡ bit_and (n / 2) (t / 2) = omega arith in
        omega (arith, ih (t / 2), ones_step (bit_or n t), ones_step (bit_and n t), ones_step n, ones_step t, ap ones or-half, ap ones and-half)

one_set : ones 1 ≡ 1
unfolding ones
one_set = refl

pub size_alone : (p : ℕ) → ones (2 ^ p) ≡ 1
size_alone zero = one_set
size_alone (suc p) =
    let two : 2 ^ suc p ≡ 2 ^ p * 2 = pow-suc 2 p in
    let half : 2 ^ suc p / 2 ≡ 2 ^ p = omega arith in
    omega (arith, ones_step (2 ^ suc p), ap ones half, size_alone p)

-- sets apart add up
pub size_apart : (s t : ℕ) → s < 2 ^ 64 → t < 2 ^ 64 → ((p : ℕ) → has_bit s p ≡ true → has_bit t p ≡ false) → ones (bit_or s t) ≡ ones s + ones t
size_apart s t h g apart =
    let nothing : bit_and s t ≡ 0 = same_bits 64 (bit_and s t) 0 (and_lt 64 s t h g) (pow_pos 64) (λ p l. bit_and_lem s t p ∙ never (has_bit s p) (has_bit t p) (apart p) ∙ sym (bit_none p)) in
    omega (arith, size_both s t, ap ones nothing, none_set)
  where
    never : (a b : Bool) → (a ≡ true → b ≡ false) → (a && b) ≡ false
    never true b f = f refl
    never false b f = refl

-- a number put in makes one more
pub size_more : (s p : ℕ) → s < 2 ^ 64 → p < 64 → has_bit s p ≡ false → ones (bit_or s (2 ^ p)) ≡ ones s + 1
size_more s p h l n =
    size_apart s (2 ^ p) h (alone_word p l) (λ q u. alone_other p q (λ v. true≢false (sym u ∙ ap (has_bit s) v ∙ n))) ∙ ap (λ (k : ℕ). ones s + k) (size_alone p)

put_back : (a b : Bool) → (b ≡ true → a ≡ true) → (a && not b || b) ≡ a
put_back true true f = refl
put_back true false f = refl
put_back false true f = sym (f refl)
put_back false false f = refl

-- a number taken away makes one fewer
pub size_fewer : (s p : ℕ) → s < 2 ^ 64 → has_bit s p ≡ true → suc (ones (set_minus s (2 ^ p))) ≡ ones s
size_fewer s p h e =
    let one : 2 ^ p < 2 ^ 64 = alone_word p (bit_below 64 s p h e) in
    let back : bit_or (set_minus s (2 ^ p)) (2 ^ p) ≡ s =
    same_bits 64 _ s (or_lt 64 (set_minus s (2 ^ p)) (2 ^ p) (minus_word s (2 ^ p) h) one) h
    (λ q l.
    bit_or_lem (set_minus s (2 ^ p)) (2 ^ p) q ∙ ap (λ (b : Bool). b || has_bit (2 ^ p) q) (bit_minus s (2 ^ p) q h one)
    ∙ put_back (has_bit s q) (has_bit (2 ^ p) q) (λ f. ap (has_bit s) (alone_only p q f) ∙ e)) in
    omega (arith, size_apart (set_minus s (2 ^ p)) (2 ^ p) (minus_word s (2 ^ p) h) one (λ q. minus_not_in s (2 ^ p) q h one), ap ones back, size_alone p)

-- A number in decimal: one digit below 10, else the number without its last digit and then that digit; below 10 ^ k at most k digits.
-- How far `digits_of` may go is of no matter once it is above the number.
use Prim.Native.Nat.{ℕ, zero, suc, ◌+◌, ◌/◌, ◌%◌, ◌^◌, ◌≤◌, ◌<◌}
use mathlib.Core.Path.{◌≡◌, refl, ap, ◌∙◌}
use mathlib.Core.List.{List, [], ◌∷◌, ◌++◌}
use mathlib.Core.Bool.{Bool, true, false}
use native.Mathlib.Omega.{arith}
use native.Mathlib.Nat.{pow-zero, pow-suc}
use borrow.Author.Tests.{lt-ltb, le-ltb, ltb-true, ltb-false}
use lib.ListN.{length, length-append}
use lib.Dec.{ltb}
use Rattle.page.specs.Page.{digits_of, decimal}

digits_few : (k n : ℕ) → n < 10 → digits_of (suc k) n ≡ (48 + n) ∷ []
unfolding digits_of
digits_few k n h = rw (lt-ltb n 10 h)

digits_more : (k n : ℕ) → 10 ≤ n → digits_of (suc k) n ≡ digits_of k (n / 10) ++ ((48 + n % 10) ∷ [])
unfolding digits_of
digits_more k n h = rw (le-ltb n 10 h)

digits_enough : (k j n : ℕ) → n < k → n < j → digits_of k n ≡ digits_of j n
digits_enough zero j n h i = absurd (omega arith)
digits_enough (suc k) zero n h i = absurd (omega arith)
digits_enough (suc k) (suc j) n h i = go (ltb n 10) refl (λ few. digits_enough k j (n / 10) (omega arith) (omega arith))
  where
    go : (t : Bool) → ltb n 10 ≡ t → (10 ≤ n → digits_of k (n / 10) ≡ digits_of j (n / 10)) → digits_of (suc k) n ≡ digits_of (suc j) n
    go true e same = digits_few k n (ltb-true n 10 e) ∙ rw (digits_few j n (ltb-true n 10 e))
    go false e same =
        digits_more k n (ltb-false n 10 e) ∙ rw (digits_more j n (ltb-false n 10 e))
        (ap (λ (l : List ℕ). l ++ ((48 + n % 10) ∷ [])) (same (ltb-false n 10 e)))

pub decimal_few : (n : ℕ) → n < 10 → decimal n ≡ (48 + n) ∷ []
unfolding decimal
decimal_few n h = digits_few n n h

pub decimal_more : (n : ℕ) → 10 ≤ n → decimal n ≡ decimal (n / 10) ++ ((48 + n % 10) ∷ [])
unfolding decimal
decimal_more n h =
    digits_more n n h ∙ ap (λ (l : List ℕ). l ++ ((48 + n % 10) ∷ [])) (digits_enough n (suc (n / 10)) (n / 10) (omega arith) (omega arith))

longer : (n m : ℕ) → (10 ≤ n → length (decimal (n / 10)) ≤ m) → length (decimal n) ≤ suc m
longer n m more = go (ltb n 10) refl
  where
    go : (t : Bool) → ltb n 10 ≡ t → length (decimal n) ≤ suc m
    go true e = rw (decimal_few n (ltb-true n 10 e)) (omega arith)
    go false e = rw (decimal_more n (ltb-false n 10 e), length-append) (omega (arith, more (ltb-false n 10 e)))

pub digits_most : (k n : ℕ) → n < 10 ^ suc k → length (decimal n) ≤ suc k
digits_most zero n h = longer n zero (λ m. absurd (omega (arith, pow-suc 10 zero, pow-zero 10)))
digits_most (suc k) n h = longer n (suc k) (λ m. digits_most k (n / 10) (omega (arith, pow-suc 10 (suc k))))

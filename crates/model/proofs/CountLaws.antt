-- How many of the numbers below n pass a test.
-- One number more at a time.
use Prim.Native.Nat.{ℕ, zero, suc, ◌+◌, ◌≤◌, ◌<◌}
use mathlib.Core.Path.{◌≡◌, refl, sym, ◌∙◌, ap, subst}
use mathlib.Core.Logic.{◌⊎◌, inl, inr}
use mathlib.Core.List.{List, [], ◌∷◌}
use mathlib.Core.Bool.{Bool, true, false, ◌&&◌, ◌||◌, true≢false, false≢true}
use native.Mathlib.Nat.{eq-or-lt_of_le}
use native.Mathlib.Omega.{arith}
use lib.ListN.{length}
use lib.Dec.{eqb}
use borrow.Author.Tests.{eqb-true, eq-eqb, ne_eqb}
use Rattle.model.specs.Lists.{numbers_below, cons_if, keep, any_of, how_many}
use Rattle.model.proofs.ListLaws.{any_below, any_false, below_mem, below_suc, how_many_append, how_many_ext, how_many_length, how_many_less, how_many_none, how_many_pass, how_many_skip, length_below, mem_below}

-- counts over the numbers below n

pub how_many_below_pass : (f : ℕ → Bool) (n : ℕ) → f n ≡ true → how_many f (numbers_below (suc n)) ≡ how_many f (numbers_below n) + 1
how_many_below_pass f n e = ap (how_many f) (below_suc n) ∙ how_many_append f (numbers_below n) (n ∷ []) ∙ ap (λ (k : ℕ). how_many f (numbers_below n) + k) (how_many_pass f n [] e)

pub how_many_below_skip : (f : ℕ → Bool) (n : ℕ) → f n ≡ false → how_many f (numbers_below (suc n)) ≡ how_many f (numbers_below n)
how_many_below_skip f n e = ap (how_many f) (below_suc n) ∙ how_many_append f (numbers_below n) (n ∷ []) ∙ ap (λ (k : ℕ). how_many f (numbers_below n) + k) (how_many_skip f n [] e) ∙ omega arith

pub how_many_below_ext : (f g : ℕ → Bool) (n : ℕ) → ((x : ℕ) → x < n → f x ≡ g x) → how_many f (numbers_below n) ≡ how_many g (numbers_below n)
how_many_below_ext f g n h = how_many_ext f g (numbers_below n) (λ x m. h x (mem_below n m))

pub how_many_below : (f : ℕ → Bool) (n : ℕ) → how_many f (numbers_below n) ≤ n
how_many_below f n = subst (λ (k : ℕ). how_many f (numbers_below n) ≤ k) (length_below n) (how_many_length f (numbers_below n))

-- f passes what g passes and k besides
pub how_many_one_more : (f g : ℕ → Bool) (n k : ℕ) → k < n → f k ≡ true → g k ≡ false → ((j : ℕ) → j < n → (j ≡ k → ⊥) → f j ≡ g j) → how_many f (numbers_below n) ≡ how_many g (numbers_below n) + 1
how_many_one_more f g zero k h p q s = absurd (omega arith)
how_many_one_more f g (suc n) k h p q s = last (eq-or-lt_of_le h) (λ i. how_many_one_more f g n k i p q (λ j l d. s j (omega arith) d))
  where
    inner : k < n → (t : Bool) → g n ≡ t → how_many f (numbers_below n) ≡ how_many g (numbers_below n) + 1 → how_many f (numbers_below (suc n)) ≡ how_many g (numbers_below (suc n)) + 1
    inner i true e ih =
        let a : how_many f (numbers_below (suc n)) ≡ how_many f (numbers_below n) + 1 = how_many_below_pass f n (s n (omega arith) (λ d. omega arith) ∙ e) in
        let b : how_many g (numbers_below (suc n)) ≡ how_many g (numbers_below n) + 1 = how_many_below_pass g n e in
        omega arith
    inner i false e ih =
        let a : how_many f (numbers_below (suc n)) ≡ how_many f (numbers_below n) = how_many_below_skip f n (s n (omega arith) (λ d. omega arith) ∙ e) in
        let b : how_many g (numbers_below (suc n)) ≡ how_many g (numbers_below n) = how_many_below_skip g n e in
        omega arith

    last : (suc k ≡ suc n) ⊎ (suc k < suc n) → (k < n → how_many f (numbers_below n) ≡ how_many g (numbers_below n) + 1) → how_many f (numbers_below (suc n)) ≡ how_many g (numbers_below (suc n)) + 1
    last (inl e) ih =
        let d : n ≡ k = omega arith in
        let a : how_many f (numbers_below (suc n)) ≡ how_many f (numbers_below n) + 1 = how_many_below_pass f n (ap f d ∙ p) in
        let b : how_many g (numbers_below (suc n)) ≡ how_many g (numbers_below n) = how_many_below_skip g n (ap g d ∙ q) in
        let c : how_many f (numbers_below n) ≡ how_many g (numbers_below n) = how_many_below_ext f g n (λ x l. s x (omega arith) (λ r. omega arith)) in
        omega arith
    last (inr l) ih = inner (omega arith) (g n) refl (ih (omega arith))

-- of two tests that never both pass, as many pass one of them as pass the first and the second
pub how_many_either : (f g : ℕ → Bool) (l : List ℕ) → ((x : ℕ) → (f x && g x) ≡ false) → how_many (λ x. f x || g x) l ≡ how_many f l + how_many g l
how_many_either f g [] d = refl
how_many_either f g (a ∷ l) d = go (f a) (g a) (d a) (how_many_either f g l d)
  where
    go : (s t : Bool) → (s && t) ≡ false → how_many (λ x. f x || g x) l ≡ how_many f l + how_many g l
        → length (cons_if (s || t) a (keep (λ x. f x || g x) l)) ≡ length (cons_if s a (keep f l)) + length (cons_if t a (keep g l))
    go true true e ih = absurd (true≢false e)
    go true false e ih = omega arith
    go false true e ih = omega arith
    go false false e ih = ih

-- one that passes is counted, and two are counted as two

pub pass_one : (f : ℕ → Bool) (n w : ℕ) → w < n → f w ≡ true → 1 ≤ how_many f (numbers_below n)
pass_one f n w h e = omega (arith, how_many_less (λ x. false) f (numbers_below n) (λ x m q. absurd (false≢true q)) (below_mem n w h) refl e)

pub pass_two : (f : ℕ → Bool) (n w v : ℕ) → w < n → v < n → (w ≡ v → ⊥) → f w ≡ true → f v ≡ true → 2 ≤ how_many f (numbers_below n)
pass_two f n w v h i d e g =
    let one : 1 ≤ how_many (eqb w) (numbers_below n) = pass_one (eqb w) n w h (eq-eqb w w refl) in
    let more : how_many (eqb w) (numbers_below n) < how_many f (numbers_below n) = how_many_less (eqb w) f (numbers_below n) (λ x m q. ap f (sym (eqb-true w x q)) ∙ e) (below_mem n v i) (ne_eqb w v d) g in
    omega arith

pub one_pass : (f : ℕ → Bool) (n : ℕ) → 1 ≤ how_many f (numbers_below n) → (w : ℕ) × (w < n) × (f w ≡ true)
one_pass f n h = go (any_of f (numbers_below n)) refl
  where
    go : (t : Bool) → any_of f (numbers_below n) ≡ t → (w : ℕ) × (w < n) × (f w ≡ true)
    go true e = any_below f n e
    go false e = absurd (let none : how_many f (numbers_below n) ≡ 0 = how_many_none f (numbers_below n) (λ x m. any_false f e m) in omega arith)

-- two numbers below n that pass
pub record TwoPass (f : ℕ → Bool) (n : ℕ) : Type 0 where
  pub lower : ℕ
  pub upper : ℕ
  pub apart : lower < upper
  pub small : upper < n
  pub lower_passes : f lower ≡ true
  pub upper_passes : f upper ≡ true

pub two_pass : (f : ℕ → Bool) (n : ℕ) → 2 ≤ how_many f (numbers_below n) → TwoPass f n
two_pass f zero h = absurd (omega arith)
two_pass f (suc n) h = go (f n) refl (two_pass f n)
  where
    go : (t : Bool) → f n ≡ t → (2 ≤ how_many f (numbers_below n) → TwoPass f n) → TwoPass f (suc n)
    go true e ih =
        let count : how_many f (numbers_below (suc n)) ≡ how_many f (numbers_below n) + 1 = how_many_below_pass f n e in
        let r = one_pass f n (omega arith) in
        record { lower = r.0; upper = n; apart = r.1; small = omega arith; lower_passes = r.2; upper_passes = e }
    go false e ih =
        let count : how_many f (numbers_below (suc n)) ≡ how_many f (numbers_below n) = how_many_below_skip f n e in
        let r : TwoPass f n = ih (omega arith) in
        record { lower = r.lower; upper = r.upper; apart = r.apart; small = omega arith; lower_passes = r.lower_passes; upper_passes = r.upper_passes }

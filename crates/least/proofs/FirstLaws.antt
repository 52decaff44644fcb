-- Laws of the first in a list that passes a test: where it exists, that in an ascending list it is the least, and that tests which agree find
-- the same. By what was found, or by induction over the list.
use Prim.Native.Nat.{ℕ, ◌≤◌, ◌<◌}
use mathlib.Core.Path.{◌≡◌, refl, ◌∙◌, ap, ap₂}
use mathlib.Core.Logic.{◌⊎◌, inl, inr}
use mathlib.Core.List.Memᴰ
use mathlib.Core.List.{List, [], ◌∷◌, Memᴰ}
use mathlib.Core.Bool.{Bool, true, false}
use mathlib.Core.Option.{Option, none, some, some-injective}
use native.Mathlib.Omega.{arith}
use Rattle.model.specs.Lists.{this_else, first, numbers_below, Ascending}
use Rattle.model.proofs.BoolLaws.{both_ways}
use Rattle.model.proofs.ListLaws.{first_none, first_below, below_first, first_below_none}

module _ {A : Type 0} where
  -- where a member passes, a first one is found
  pub first_exists : (f : A → Bool) (l : List A) {x : A} → Memᴰ x l → f x ≡ true → (y : A) × (first f l ≡ some y)
  first_exists f l {x} m e = go (first f l) refl
    where
      go : (o : Option A) → first f l ≡ o → (y : A) × (first f l ≡ some y)
      go none q = both_ways e (first_none f q m)
      go (some y) q = (y, q)

  -- tests that agree on the members find the same
  pub first_ext : (f g : A → Bool) (l : List A) → ((x : A) → Memᴰ x l → f x ≡ g x) → first f l ≡ first g l
  first_ext f g [] h = refl
  first_ext f g (a ∷ l) h = ap₂ (λ (t : Bool) (o : Option A). this_else t a o) (h a (Memᴰ.head refl)) (first_ext f g l (λ x m. h x (Memᴰ.tail m)))

-- of an ascending list the first that passes is the least
pub first_ascending : (f : ℕ → Bool) (l : List ℕ) → Ascending l → {x y : ℕ} → first f l ≡ some x → Memᴰ y l → f y ≡ true → x ≤ y
first_ascending f [] s e m p = absurd (Memᴰ.not-nil m)
first_ascending f (a ∷ l) s {x} {y} e m p = go (f a) refl e (Memᴰ.cases_cons m) (λ d n c. first_ascending f l s.1 {x = x} {y = y} d n c)
  where
    go : (t : Bool) → f a ≡ t → this_else t a (first f l) ≡ some x → (y ≡ a) ⊎ Memᴰ y l → (first f l ≡ some x → Memᴰ y l → f y ≡ true → x ≤ y) → x ≤ y
    go true q h (inl r) ih = let i : a ≡ x = some-injective a x h in omega arith
    go true q h (inr n) ih = let i : a ≡ x = some-injective a x h in let b : a < y = s.0 y n in omega arith
    go false q h (inl r) ih = both_ways p (ap f r ∙ q)
    go false q h (inr n) ih = ih h n p

-- the first number below n that passes is the same for tests that agree at each number below which none passes
pub first_agrees : (f g : ℕ → Bool) → ((k : ℕ) → ((j : ℕ) → j < k → g j ≡ false) → f k ≡ g k) → (n : ℕ) → first f (numbers_below n) ≡ first g (numbers_below n)
first_agrees f g agree n = go (first g (numbers_below n)) refl
  where
    fails : (m : ℕ) → ((j : ℕ) → j < m → g j ≡ false) → (j : ℕ) → j < m → f j ≡ false
    fails m none_lower j h = agree j (λ i l. none_lower i (omega arith)) ∙ none_lower j h

    none_found : ((j : ℕ) → j < n → g j ≡ false) → (o : Option ℕ) → first f (numbers_below n) ≡ o → o ≡ none
    none_found h none e = refl
    none_found h (some k) e = let r = first_below f n e in both_ways r.passes (fails n h k r.small)

    go : (o : Option ℕ) → first g (numbers_below n) ≡ o → first f (numbers_below n) ≡ o
    go none e = none_found (first_below_none g n e) (first f (numbers_below n)) refl
    go (some k) e =
        let r = first_below g n e in
        below_first f n k r.small (agree k r.none_lower ∙ r.passes) (fails k r.none_lower)

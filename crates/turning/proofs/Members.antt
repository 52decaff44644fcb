-- Membership in a list of numbers as a test, and what it counts below a bound when the list gets one number more.
-- From the laws of tests and counts.
use Prim.Native.Nat.{ℕ, suc, ◌<◌}
use mathlib.Core.List.{List, [], ◌∷◌}
use mathlib.Core.Path.{◌≡◌, refl, ◌∙◌}
use mathlib.Core.Bool.{Bool, true, false, ◌||◌}
use native.Mathlib.Numerals.{add-one}
use lib.Dec.{eqb}
use borrow.Author.Tests.{eqb-true, eq-eqb, ne_eqb}
use Rattle.model.specs.Lists.{any_of, numbers_below, how_many}
use Rattle.model.proofs.BoolLaws.{or_right}
use Rattle.model.proofs.ListLaws.{how_many_none}
use Rattle.model.proofs.CountLaws.{how_many_one_more}

abbrev pub elem : ℕ → List ℕ → Bool
elem a l = any_of (eqb a) l

-- a member of b ∷ l is b or a member of l
pub elem_either : {A : Type 0} (a b : ℕ) (l : List ℕ) → elem a (b ∷ l) ≡ true → (a ≡ b → A) → (elem a l ≡ true → A) → A
elem_either {A} a b l e f g = pick (eqb a b) refl e
  where
    pick : (c : Bool) → eqb a b ≡ c → (c || elem a l) ≡ true → A
    pick true h i = f (eqb-true a b h)
    pick false h i = g i

pub elem_here : (b : ℕ) (l : List ℕ) → elem b (b ∷ l) ≡ true
elem_here b l = rw (eq-eqb b b refl)

pub elem_there : (a b : ℕ) (l : List ℕ) → elem a l ≡ true → elem a (b ∷ l) ≡ true
elem_there a b l e = or_right (eqb a b) (elem a l) e

pub count_no_members : (n : ℕ) → how_many (λ a. elem a []) (numbers_below n) ≡ 0
count_no_members n = how_many_none (λ a. elem a []) (numbers_below n) (λ a i. refl)

-- a new member is one more
pub count_members : (b : ℕ) (l : List ℕ) (n : ℕ) → b < n → elem b l ≡ false → how_many (λ a. elem a (b ∷ l)) (numbers_below n) ≡ suc (how_many (λ a. elem a l) (numbers_below n))
count_members b l n h e = how_many_one_more (λ a. elem a (b ∷ l)) (λ a. elem a l) n b h (elem_here b l) e (λ a i d. rw (ne_eqb a b d)) ∙ add-one _

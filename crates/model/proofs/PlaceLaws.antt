-- Members of a list by their places, and how many of them pass a test.
-- By induction over the list, or place by place.
use Prim.Native.Nat.{ℕ, zero, suc, ◌+◌, ◌<◌}
use mathlib.Core.Path.{◌≡◌, refl, sym, ◌∙◌, ap, ap₂, subst}
use mathlib.Core.Logic.{◌⊎◌, inl, inr}
use mathlib.Core.List.Memᴰ
use mathlib.Core.List.{List, [], ◌∷◌, map, Memᴰ}
use mathlib.Core.Bool.{Bool, true, false, not}
use native.Mathlib.Omega.{arith}
use native.Mathlib.Numerals.{add-one}
use lib.ListN.{length, get_or, length-map}
use lib.Seq.{ext_get_or}
use lib.Dec.{eqb}
use borrow.Author.Tests.{eqb-true, eqb-false, ne_eqb}
use Rattle.model.specs.Lists.{numbers_below, cons_if, keep, how_many}
use Rattle.model.proofs.ListLaws.{get_or_below, keep_all, length_below}
use Rattle.model.proofs.AscendingLaws.{NoRepeats}

-- places

module _ {A : Type 0} where
  pub mem_get_or : (d : A) {x : A} {l : List A} → Memᴰ x l → (i : ℕ) × (i < length l) × (get_or l i d ≡ x)
  mem_get_or d (Memᴰ.head q) = (0, omega arith, sym q)
  mem_get_or d (Memᴰ.tail m) = let r = mem_get_or d m in (suc r.0, omega (arith, r.1), r.2)

  pub get_or_mem : (d : A) (l : List A) (i : ℕ) → i < length l → Memᴰ (get_or l i d) l
  get_or_mem d [] i h = absurd (omega arith)
  get_or_mem d (a ∷ l) zero h = Memᴰ.head refl
  get_or_mem d (a ∷ l) (suc i) h = Memᴰ.tail (get_or_mem d l i (omega arith))

  -- map by functions that agree on the members
  pub map_ext : {B : Type 0} (f g : A → B) (l : List A) → ((x : A) → Memᴰ x l → f x ≡ g x) → map f l ≡ map g l
  map_ext f g [] h = refl
  map_ext {B} f g (a ∷ l) h = ap₂ (λ (x : B) (y : List B). x ∷ y) (h a (Memᴰ.head refl)) (map_ext f g l (λ x m. h x (Memᴰ.tail m)))

  pub get_or_map : {B : Type 0} (f : A → B) (l : List A) (d : A) (e : B) (i : ℕ) → i < length l → get_or (map f l) i e ≡ f (get_or l i d)
  get_or_map f [] d e i h = absurd (omega arith)
  get_or_map f (a ∷ l) d e zero h = refl
  get_or_map f (a ∷ l) d e (suc i) h = get_or_map f l d e i (omega arith)

pub get_or_map_below : {B : Type 0} (f : ℕ → B) (n i : ℕ) (e : B) → i < n → get_or (map f (numbers_below n)) i e ≡ f i
get_or_map_below f n i e h = get_or_map f (numbers_below n) 0 e i (rw length_below h) ∙ ap f (get_or_below n i 0 h)

-- as many images pass as numbers whose image passes
pub how_many_map : (f : ℕ → Bool) (g : ℕ → ℕ) (l : List ℕ) → how_many f (map g l) ≡ how_many (λ x. f (g x)) l
how_many_map f g [] = refl
how_many_map f g (a ∷ l) = by (f (g a)) (how_many_map f g l)
  where
    by : (b : Bool) → how_many f (map g l) ≡ how_many (λ x. f (g x)) l → length (cons_if b (g a) (keep f (map g l))) ≡ length (cons_if b a (keep (λ x. f (g x)) l))
    by true e = ap suc e
    by false e = e

-- a list is what its places hold, in order
by_places : (l : List ℕ) → map (λ i. get_or l i 0) (numbers_below (length l)) ≡ l
by_places l =
    ext_get_or 0 (map (λ i. get_or l i 0) (numbers_below (length l))) l as_long
    (λ i h. get_or_map_below (λ j. get_or l j 0) (length l) i 0 (subst (λ (n : ℕ). i < n) as_long h))
  where
    as_long : length (map (λ i. get_or l i 0) (numbers_below (length l))) ≡ length l
    as_long = length-map (numbers_below (length l)) (λ i. get_or l i 0) ∙ length_below (length l)

-- as many pass in a list as places hold one that passes
pub how_many_places : (f : ℕ → Bool) (l : List ℕ) → how_many f l ≡ how_many (λ i. f (get_or l i 0)) (numbers_below (length l))
how_many_places f l = ap (how_many f) (sym (by_places l)) ∙ how_many_map f (λ i. get_or l i 0) (numbers_below (length l))

-- where no number stands twice, taking one off leaves one fewer
pub keep_one_fewer : (c : ℕ) (l : List ℕ) → NoRepeats l → Memᴰ c l → length (keep (λ x. not (eqb c x)) l) + 1 ≡ length l
keep_one_fewer c [] n m = absurd (Memᴰ.not-nil m)
keep_one_fewer c (a ∷ l) n m = go (eqb c a) refl (Memᴰ.cases_cons m) (keep_one_fewer c l n.1)
  where
    go : (t : Bool) → eqb c a ≡ t → (c ≡ a) ⊎ Memᴰ c l → (Memᴰ c l → length (keep (λ x. not (eqb c x)) l) + 1 ≡ length l) → length (cons_if (not t) a (keep (λ x. not (eqb c x)) l)) + 1 ≡ suc (length l)
    go true e i ih = ap (λ (k : List ℕ). length k + 1) (keep_all (λ x. not (eqb c x)) l (λ x j. ap not (ne_eqb c x (λ q. n.0 (Memᴰ.cast (sym (eqb-true c a e) ∙ q) j))))) ∙ add-one (length l)
    go false e (inl q) ih = absurd (eqb-false c a e q)
    go false e (inr i) ih = let r : length (keep (λ x. not (eqb c x)) l) + 1 ≡ length l = ih i in omega arith

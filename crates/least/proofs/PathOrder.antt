-- The order in which the queue finds paths, written last word first: fewer words, or as many and smaller at the first difference.
-- One word more at the front keeps it, so it goes by one word at a time; for ways of one length it is `Before`.
use Prim.Native.Nat.{ℕ, suc, ◌+◌, ◌≤◌, ◌<◌}
use mathlib.Core.Path.{◌≡◌, refl, sym, ◌∙◌, ap, subst}
use mathlib.Core.Logic.{◌⊎◌, inl, inr}
use mathlib.Core.List.{List, [], ◌∷◌, reverse, reverse_aux, reverse-reverse, tail-eq_of_cons-eq}
use native.Mathlib.Nat.{lt_trans}
use native.Mathlib.Omega.{arith}
use lib.ListN.{length, length-reverse_aux}
use Rattle.least.specs.Ways.{Before, differs, later}

pub data Less : List ℕ → List ℕ → Type 0 where
  starts : {y : ℕ} {q : List ℕ} → Less [] (y ∷ q)
  earlier : {x y : ℕ} {p q : List ℕ} → Less p q → Less (x ∷ p) (y ∷ q)
  last : {x y : ℕ} {p q : List ℕ} → p ≡ q → x < y → Less (x ∷ p) (y ∷ q)

abbrev pub UpTo : List ℕ → List ℕ → Type 0
UpTo p q = (p ≡ q) ⊎ Less p q

less_of_same : {p q r : List ℕ} → Less p q → q ≡ r → Less p r
less_of_same {p} h e = subst (Less p) e h

same_less : {p q r : List ℕ} → p ≡ q → Less q r → Less p r
same_less {r = r} e h = subst (λ (s : List ℕ). Less s r) (sym e) h

pub less_trans : {p q r : List ℕ} → Less p q → Less q r → Less p r
less_trans starts (earlier k) = starts
less_trans starts (last e l) = starts
less_trans (earlier h) (earlier k) = earlier (less_trans h k)
less_trans (earlier h) (last e l) = earlier (less_of_same h e)
less_trans (last e l) (earlier k) = earlier (same_less e k)
less_trans (last e l) (last d m) = last (e ∙ d) (lt_trans l m)

pub less_irrefl : (p : List ℕ) → Less p p → ⊥
less_irrefl [] x' = elim x' [ ]
less_irrefl (x ∷ p) (earlier h) = less_irrefl p h
less_irrefl (x ∷ p) (last e l) = omega arith

pub up_to_trans : {p q r : List ℕ} → UpTo p q → UpTo q r → UpTo p r
up_to_trans (inl e) (inl d) = inl (e ∙ d)
up_to_trans (inl e) (inr k) = inr (same_less e k)
up_to_trans (inr h) (inl d) = inr (less_of_same h d)
up_to_trans (inr h) (inr k) = inr (less_trans h k)

-- one word more
pub up_to_more : (x : ℕ) {p q : List ℕ} → UpTo p q → UpTo (x ∷ p) (x ∷ q)
up_to_more x (inl e) = inl (ap (λ (l : List ℕ). x ∷ l) e)
up_to_more x (inr h) = inr (earlier h)

pub less_length : {p q : List ℕ} → Less p q → length p ≤ length q
less_length starts = omega arith
less_length (earlier h) = let k = less_length h in omega arith
less_length (last e l) = let k = ap length e in omega arith

-- fewer words come first
pub shorter_less : (p q : List ℕ) → length p < length q → Less p q
shorter_less [] [] h = absurd (omega arith)
shorter_less [] (y ∷ q) h = starts
shorter_less (x ∷ p) [] h = absurd (omega arith)
shorter_less (x ∷ p) (y ∷ q) h = earlier (shorter_less p q (omega arith))

-- a path that goes on comes no sooner
pub up_to_longer : (us p : List ℕ) → UpTo p (reverse_aux us p)
up_to_longer [] p = inl refl
up_to_longer (u ∷ us) p = inr (shorter_less p (reverse_aux us (u ∷ p)) (let e : length (reverse_aux us (u ∷ p)) ≡ length us + suc (length p) = length-reverse_aux us (u ∷ p) in omega arith))

-- ways of one length

less_on : (vs us : List ℕ) {p q : List ℕ} → length vs ≡ length us → Less p q → Less (reverse_aux vs p) (reverse_aux us q)
less_on [] [] l h = h
less_on [] (u ∷ us) l h = absurd (omega arith)
less_on (v ∷ vs) [] l h = absurd (omega arith)
less_on (v ∷ vs) (u ∷ us) l h = less_on vs us (omega arith) (earlier h)

pub before_less : {vs us : List ℕ} (p : List ℕ) → length vs ≡ length us → Before vs us → Less (reverse_aux vs p) (reverse_aux us p)
before_less p l (differs {v = v} {u = u} {vs = vs} {us = us} h) = less_on vs us (omega arith) (last refl h)
before_less p l (later {v = v} b) = before_less (v ∷ p) (omega arith) b

-- a path that comes no later than that of a least way is that way
pub up_to_least : (w : ℕ) (vs us : List ℕ) → UpTo (reverse (w ∷ vs)) (reverse (w ∷ us)) → length us ≤ length vs → (length vs ≡ length us → (us ≡ vs) ⊎ Before us vs) → vs ≡ us
up_to_least w vs us (inl e) h k = tail-eq_of_cons-eq (sym (reverse-reverse (w ∷ vs)) ∙ ap reverse e ∙ reverse-reverse (w ∷ us))
up_to_least w vs us (inr l) h k = go (k same_length)
  where
    same_length : length vs ≡ length us
    same_length =
        let a = less_length l in
        let b : length (reverse_aux vs (w ∷ [])) ≡ length vs + 1 = length-reverse_aux vs (w ∷ []) in
        let c : length (reverse_aux us (w ∷ [])) ≡ length us + 1 = length-reverse_aux us (w ∷ []) in
        omega arith

    go : (us ≡ vs) ⊎ Before us vs → vs ≡ us
    go (inl e) = sym e
    go (inr b) = absurd (less_irrefl (reverse (w ∷ vs)) (less_trans l (before_less (w ∷ []) (sym same_length) b)))

-- The path to a place of a queue, last word first: there is one, it is the only one, the walk back gives it, and how long it is.
-- Each place but the first was found from an earlier one, so as many steps as the place's number will do.
use Prim.Native.Nat.{ℕ, zero, suc, ◌+◌, ◌≤◌, ◌<◌}
use mathlib.Core.Path.{◌≡◌, refl, ◌∙◌, ap}
use mathlib.Core.List.{List, [], ◌∷◌, reverse_aux}
use native.Mathlib.Omega.{arith}
use lib.ListN.{length}
use Rattle.least.specs.Queue.{Queue, path_onto, path_to}
use Rattle.least.proofs.QueueLaws.{size, word_at, from_at}
use Rattle.least.proofs.ProperQueue.{Proper}

-- the path to a place, last word first
pub data BackFrom (q : Queue) : ℕ → List ℕ → Type 0 where
  first_place : BackFrom q 0 (word_at q 0 ∷ [])
  step_back : {j : ℕ} {p : List ℕ} → BackFrom q (from_at q (suc j)) p → BackFrom q (suc j) (word_at q (suc j) ∷ p)

pub back_unique : {q : Queue} {j k : ℕ} {p r : List ℕ} → BackFrom q j p → BackFrom q k r → j ≡ k → p ≡ r
back_unique first_place first_place e = refl
back_unique first_place (step_back s) e = absurd (omega arith)
back_unique (step_back s) first_place e = absurd (omega arith)
back_unique {q} (step_back {j = j} {p = p} s) (step_back {j = k} {p = r} t) e =
    let d : p ≡ r = back_unique s t (ap (from_at q) e) in
    ap (λ (l : List ℕ). word_at q (suc j) ∷ l) d ∙ ap (λ (x : ℕ). word_at q x ∷ r) e

module _ {n : ℕ} {q : Queue} (p : Proper n q) where
  back_within : (m i : ℕ) → i < m → i < size q → (l : List ℕ) × BackFrom q i l
  back_within zero i a b = absurd (omega arith)
  back_within (suc m) zero a b = (word_at q 0 ∷ [], first_place)
  back_within (suc m) (suc i) a b =
      let f : from_at q (suc i) < suc i = p.falls (suc i) (omega arith) b in
      let (l, s) = back_within m (from_at q (suc i)) (omega arith) (omega arith) in
      (word_at q (suc i) ∷ l, step_back s)

  pub back_exists : (i : ℕ) → i < size q → (l : List ℕ) × BackFrom q i l
  back_exists i b = back_within (suc i) i (omega arith) b

  -- with steps enough, the walk back is that path
  pub path_back : {i : ℕ} {l : List ℕ} → BackFrom q i l → (m : ℕ) → i < m → i < size q → (r : List ℕ) → path_onto m q i r ≡ reverse_aux l r
  unfolding path_onto
  path_back first_place zero a b r = absurd (omega arith)
  path_back first_place (suc m) a b r = refl
  path_back (step_back s) zero a b r = absurd (omega arith)
  path_back (step_back {j = j} s) (suc m) a b r =
      let f : from_at q (suc j) < suc j = p.falls (suc j) (omega arith) b in
      path_back s m (omega arith) (omega arith) (word_at q (suc j) ∷ r)

pub path_to_lem : (q : Queue) (i : ℕ) → path_to q i ≡ path_onto (suc i) q i []
unfolding path_to
path_to_lem q i = refl

-- no longer than its steps
onto_length : (m : ℕ) (q : Queue) (i : ℕ) (r : List ℕ) → length (path_onto m q i r) ≤ m + length r
unfolding path_onto
onto_length zero q i r = omega arith
onto_length (suc m) q zero r = omega arith
onto_length (suc m) q (suc i) r = let h = onto_length m q (from_at q (suc i)) (word_at q (suc i) ∷ r) in omega arith

-- so no path to a place has more words than there are places up to it
pub path_length : (q : Queue) (i : ℕ) → length (path_to q i) ≤ suc i
path_length q i = let h = onto_length (suc i) q i [] in rw (path_to_lem q i) (omega arith)

-- The places of the queue are in the order of their paths, and a word found from place j or before has a path no later than that of j with the word.
-- Two places are compared by the places that they were found from, and where these are the same by their words.
use Prim.Native.Nat.{ℕ, suc, ◌≤◌, ◌<◌}
use mathlib.Core.Path.{◌≡◌}
use mathlib.Core.Logic.{◌⊎◌, inl, inr}
use mathlib.Core.List.{List, [], ◌∷◌}
use native.Mathlib.Nat.{eq-or-lt_of_le}
use native.Mathlib.Omega.{arith}
use Rattle.least.specs.Queue.{Queue}
use Rattle.least.proofs.QueueLaws.{size, word_at, from_at}
use Rattle.least.proofs.ProperQueue.{Proper}
use Rattle.least.proofs.PathOrder.{Less, starts, earlier, last, UpTo, up_to_more}
use Rattle.least.proofs.PathLaws.{BackFrom, first_place, step_back, back_unique}
use Rattle.least.proofs.QueueTree.{Earlier, SortedQueue}

-- a path is not empty
back_starts : {q : Queue} {i : ℕ} {p : List ℕ} → BackFrom q i p → Less [] p
back_starts first_place = starts
back_starts (step_back s) = starts

-- places are in the order of their paths
pub back_less : {n : ℕ} {q : Queue} → Proper n q → SortedQueue q → {j k : ℕ} {p r : List ℕ} → BackFrom q j p → BackFrom q k r → j < k → k < size q → Less p r
back_less o s first_place first_place h l = absurd (omega arith)
back_less o s (step_back a) first_place h l = absurd (omega arith)
back_less o s first_place (step_back b) h l = earlier (back_starts b)
back_less {q = q} o s (step_back {j = j} {p = p} a) (step_back {j = k} {p = r} b) h l = go (s.sorted (suc j) (suc k) (omega arith) h l) (λ f. back_less o s a b f inside)
  where
    inside : from_at q (suc k) < size q
    inside = let f = o.falls (suc k) (omega arith) l in omega arith

    go : Earlier (from_at q (suc j)) (word_at q (suc j)) (from_at q (suc k)) (word_at q (suc k))
        → (from_at q (suc j) < from_at q (suc k) → Less p r) → Less (word_at q (suc j) ∷ p) (word_at q (suc k) ∷ r)
    go (inl f) ih = earlier (ih f)
    go (inr f) ih = last (back_unique a b f.0) f.1

pub back_up_to : {n : ℕ} {q : Queue} → Proper n q → SortedQueue q → {j k : ℕ} {p r : List ℕ} → BackFrom q j p → BackFrom q k r → j ≤ k → k < size q → UpTo p r
back_up_to o s {j} {k} {p} {r} a b h l = go (eq-or-lt_of_le h)
  where
    go : (j ≡ k) ⊎ (j < k) → UpTo p r
    go (inl e) = inl (back_unique a b e)
    go (inr f) = inr (back_less o s a b f l)

-- a word found from place j or before has a path that comes no later than that of j with the word
pub found_up_to : {n : ℕ} {q : Queue} → Proper n q → SortedQueue q → {j k v : ℕ} {p r : List ℕ} → BackFrom q j p → j < size q → BackFrom q k r → word_at q k ≡ v → from_at q k ≤ j → UpTo r (v ∷ p)
found_up_to o s a l first_place e h = inr (earlier (back_starts a))
found_up_to o s {v = v} a l (step_back b) e h = rw e (up_to_more v (back_up_to o s b a h l))

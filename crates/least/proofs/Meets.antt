-- Where no place below m holds a goal, every way meets the queue at place m or after it, with a path that comes no later than the way.
-- Word by word: a place that was looked at has all its next words in the queue, and each has a path no later than the way so far.
use Prim.Native.Nat.{ℕ, ◌≤◌, ◌<◌}
use mathlib.Core.Path.{◌≡◌, refl, sym, ◌∙◌, ap, subst}
use mathlib.Core.Logic.{inl}
use mathlib.Core.List.{List, [], ◌∷◌, reverse_aux, Memᴰ}
use mathlib.Core.Bool.{Bool, true, false}
use native.Mathlib.Omega.{arith}
use lib.Dec.{ltb}
use borrow.Author.Tests.{ltb-true, ltb-false}
use Rattle.model.proofs.BoolLaws.{both_ways}
use Rattle.least.specs.Queue.{Queue}
use Rattle.least.specs.Ways.{Way, ends, goes}
use Rattle.least.proofs.QueueLaws.{size, word_at}
use Rattle.least.proofs.ProperQueue.{Proper}
use Rattle.least.proofs.PathOrder.{UpTo, up_to_trans, up_to_more, up_to_longer}
use Rattle.least.proofs.PathLaws.{BackFrom, first_place, back_exists}
use Rattle.least.proofs.PlaceOrder.{found_up_to}
use Rattle.least.proofs.QueueTree.{Has}
use Rattle.least.proofs.Explored.{Explored}

-- a place from m on that a way meets, with a path that comes no later than the way
pub record Met (m : ℕ) (q : Queue) (a : List ℕ) : Type 0 where
  pub place : ℕ
  pub beyond : m ≤ place
  pub inside : place < size q
  pub path : List ℕ
  pub back : BackFrom q place path
  pub no_later : UpTo path a

-- no place below m holds a goal
abbrev pub NoGoalBelow : (ℕ → Bool) → ℕ → Queue → Type 0
NoGoalBelow goal m q = (j : ℕ) → j < m → goal (word_at q j) ≡ false

module _ (nexts : ℕ → List ℕ) (goal : ℕ → Bool) (n w : ℕ) {i : ℕ} {q : Queue} (e : Explored nexts n w i q) (m : ℕ) (looked : m ≤ i) (none : NoGoalBelow goal m q) where
  o : Proper n q
  o = e.tree.proper

  meets : {x : ℕ} {us : List ℕ} → Way nexts goal x us
      → (k : ℕ) → k < size q → word_at q k ≡ x → {p : List ℕ} → BackFrom q k p → (a : List ℕ) → UpTo p a → Met m q (reverse_aux us a)
  meets (ends g) k h f {p} b a u = go (ltb k m) refl
    where
      go : (t : Bool) → ltb k m ≡ t → Met m q a
      go true c = both_ways (ap goal f ∙ g) (none k (ltb-true k m c))
      go false c = record { place = k; beyond = ltb-false k m c; inside = h; path = p; back = b; no_later = u }
  meets (goes {w = x} {v = v} {vs = vs} next r) k h f {p} b a u = go (ltb k m) refl (λ l h' f' s d. meets r l h' f' d)
    where
      go : (t : Bool) → ltb k m ≡ t → ((l : ℕ) → l < size q → word_at q l ≡ v → (s : List ℕ) → BackFrom q l s → (c : List ℕ) → UpTo s c → Met m q (reverse_aux vs c))
          → Met m q (reverse_aux vs (v ∷ a))
      go true c ih =
          let below : k < m = ltb-true k m c in
          let y : Has k v q = e.closed k (omega arith) v (subst (λ (z : ℕ). Memᴰ v (nexts z)) (sym f) next) in
          let (s, d) = back_exists o y.place y.inside in
          ih y.place y.inside y.word s d (v ∷ a) (up_to_trans (found_up_to o e.in_order b h d y.word y.found_from) (up_to_more v u))
      go false c ih = record { place = k; beyond = ltb-false k m c; inside = h; path = p; back = b; no_later = up_to_trans u (up_to_longer (v ∷ vs) a) }

  -- from the first place
  pub meets_first : {us : List ℕ} → Way nexts goal w us → Met m q (reverse_aux us (w ∷ []))
  meets_first r = meets r 0 o.begun e.tree.first_word first_place (w ∷ []) (inl (ap (λ (x : ℕ). x ∷ []) e.tree.first_word))

-- The breadth-first queue finds the least way.
-- Every way meets the queue at a place from the first goal on. So with no goal in a queue looked at to its end there is no way, and else the path to
-- the first goal is the least.
use Prim.Native.Nat.{ℕ, suc, ◌≤◌, ◌<◌}
use mathlib.Core.Path.{◌≡◌, refl, sym, ◌∙◌, ap}
use mathlib.Core.Logic.{inl}
use mathlib.Core.List.{List, [], ◌∷◌, reverse, reverse_aux, reverse-reverse, Memᴰ}
use mathlib.Core.Bool.{Bool, true}
use mathlib.Core.Option.{Option, none, some}
use native.Mathlib.Omega.{arith}
use Rattle.model.specs.Lists.{Ascending}
use Rattle.rules.specs.Search.{least_from}
use Rattle.least.specs.Queue.{Queue, path_to}
use Rattle.least.specs.Ways.{Way, ends, goes}
use Rattle.least.proofs.LeastWay.{least_sound, least_shortest, least_smallest, least_exists}
use Rattle.least.proofs.QueueLaws.{size, word_at, from_at}
use Rattle.least.proofs.PathOrder.{UpTo, up_to_trans, up_to_least}
use Rattle.least.proofs.PathLaws.{BackFrom, first_place, step_back, back_exists, path_back, path_to_lem}
use Rattle.least.proofs.PlaceOrder.{back_up_to}
use Rattle.least.proofs.QueueTree.{Tree}
use Rattle.least.proofs.Explored.{Explored}
use Rattle.least.proofs.Meets.{NoGoalBelow, meets_first}

module _ (nexts : ℕ → List ℕ) (goal : ℕ → Bool) (n w : ℕ) where
  -- the path to a place goes by next words from w
  pub back_way : {m : ℕ} {q : Queue} → Tree nexts n w m q → {i : ℕ} {p us : List ℕ} → BackFrom q i p → i < size q → Way nexts goal (word_at q i) us
      → (vs : List ℕ) × (reverse_aux p us ≡ w ∷ vs) × Way nexts goal w vs
  back_way t {us = us} first_place h r = (us, ap (λ (x : ℕ). x ∷ us) t.first_word, rw t.first_word at r)
  back_way {q = q} t (step_back {j = j} s) h r =
      let f : from_at q (suc j) < suc j = t.proper.falls (suc j) (omega arith) h in
      back_way t s (omega arith) (goes (t.follows (suc j) (omega arith) h) r)

  module _ {i : ℕ} {q : Queue} (x : Explored nexts n w i q) where
    -- all was looked at, and no goal is there
    pub none_least : size q ≤ i → NoGoalBelow goal (size q) q → least_from nexts goal n w ≡ none
    none_least h no_goal = go (least_from nexts goal n w) refl
      where
        go : (o : Option (List ℕ)) → least_from nexts goal n w ≡ o → o ≡ none
        go none e = refl
        go (some r) e =
            let (vs, s, y, l) = least_sound nexts goal n w e in
            let met = meets_first nexts goal n w x (size q) h no_goal y in
            absurd (omega (arith, met.beyond, met.inside))

    module _ (asc : (w : ℕ) → Ascending (nexts w)) (lower : (w v : ℕ) → Memᴰ v (nexts w) → v < n) {m : ℕ} (looked : m ≤ i) (no_goal : NoGoalBelow goal m q) where
      -- the path to the first goal is the least way
      found_same : {p vs us : List ℕ} → BackFrom q m p → reverse p ≡ w ∷ vs → Way nexts goal w vs → least_from nexts goal n w ≡ some (w ∷ us) → Way nexts goal w us → vs ≡ us
      found_same {p} {vs} {us} s k y f z =
          let t = meets_first nexts goal n w x m looked no_goal z in
          let c : p ≡ reverse (w ∷ vs) = sym (reverse-reverse p) ∙ ap reverse k in
          let u : UpTo p (reverse (w ∷ us)) = up_to_trans (back_up_to x.tree.proper x.in_order s t.back t.beyond t.inside) t.no_later in
          up_to_least w vs us (up_to_trans (inl (sym c)) u) (least_shortest nexts goal n w f y) (λ l. least_smallest nexts goal asc n w f y l)

      pub first_least : w < n → m < size q → goal (word_at q m) ≡ true → least_from nexts goal n w ≡ some (path_to q m)
      first_least b h g = way_least (back_way x.tree walk.1 h (ends g))
        where
          walk : (p : List ℕ) × BackFrom q m p
          walk = back_exists x.tree.proper m h

          path : path_to q m ≡ reverse walk.0
          path = path_to_lem q m ∙ path_back x.tree.proper walk.1 (suc m) (omega arith) h []

          way_least : (vs : List ℕ) × (reverse walk.0 ≡ w ∷ vs) × Way nexts goal w vs → least_from nexts goal n w ≡ some (path_to q m)
          way_least (vs, k, y) =
              let (r, e) = least_exists nexts goal n lower b y in
              let (us, d, z, l) = least_sound nexts goal n w e in
              let f : least_from nexts goal n w ≡ some (w ∷ us) = e ∙ ap some d in
              f ∙ sym (ap some (path ∙ k ∙ ap (λ (m : List ℕ). w ∷ m) (found_same walk.1 k y f z)))

-- What the queue has once the places below i were looked at: a tree in order of path, closed under next words.
-- To look at one place more is to offer its next words one after the other, and each offer keeps what a queue in between has.
use Prim.Native.Nat.{ℕ, zero, suc, ◌≤◌, ◌<◌}
use mathlib.Core.Path.{◌≡◌, refl, sym, ◌∙◌, subst}
use mathlib.Core.Logic.{◌⊎◌, inl, inr}
use mathlib.Core.List.Memᴰ
use mathlib.Core.List.{List, [], ◌∷◌, Memᴰ}
use mathlib.Core.Bool.{true, false}
use native.Mathlib.Nat.{eq-or-lt_of_le, le_of_suc-le-suc}
use native.Mathlib.Omega.{arith}
use lib.ListN.{length}
use Rattle.model.specs.Lists.{Ascending}
use Rattle.least.specs.Queue.{Queue, in_queue, offer, offer_all}
use Rattle.least.proofs.QueueLaws.{size, word_at, from_at, start_queue, added, added_places, offer_cases, offer_all_cons, offer_all_none, in_place}
use Rattle.least.proofs.ProperQueue.{Extends, extends_same, extends_twice, extends_added}
use Rattle.least.proofs.QueueTree.{Tree, tree_start, tree_more, tree_added, Earlier, SortedQueue, sorted_start, sorted_added, Has, has_added, has_new}

module _ (nexts : ℕ → List ℕ) (n w : ℕ) where
  pub record Explored (i : ℕ) (q : Queue) : Type 0 where
    pub tree : Tree nexts n w i q
    pub in_order : SortedQueue q
    pub closed : (j : ℕ) → j < i → (v : ℕ) → Memᴰ v (nexts (word_at q j)) → Has j v q

  pub explored_start : w < n → Explored 0 (start_queue w)
  explored_start b = record {
    tree = tree_start nexts n w b;
    in_order = sorted_start w;
    closed = λ j h v m. absurd (omega arith);
  }

  -- place i of queue o is being looked at: its next words are offered but for vs, and q is the queue by now
  record Exploring (i : ℕ) (o : Queue) (vs : List ℕ) (q : Queue) : Type 0 where
    tree : Tree nexts n w (suc i) q
    extends : Extends o q
    in_order : SortedQueue q
    rising : Ascending vs
    left : (x : ℕ) → Memᴰ x vs → Memᴰ x (nexts (word_at o i))
    greater : (j : ℕ) → 0 < j → j < size q → from_at q j ≡ i → (x : ℕ) → Memᴰ x vs → word_at q j < x
    offered : (x : ℕ) → Memᴰ x (nexts (word_at o i)) → Memᴰ x vs ⊎ Has i x q

  -- every place was found from place i or before
  from_most : (i : ℕ) {q : Queue} → Tree nexts n w (suc i) q → (j : ℕ) → j < size q → from_at q j ≤ i
  from_most i t zero h = let e = t.first_from in omega arith
  from_most i t (suc j) h = let l = t.recent (suc j) (omega arith) h in omega arith

  there_has : (i v : ℕ) {q : Queue} → Tree nexts n w (suc i) q → in_queue q v ≡ true → Has i v q
  there_has i v {q} t e = let (k, h, r) = in_place q v e in record { place = k; inside = h; word = r; found_from = from_most i t k h }

  -- of what was left, the first is offered now
  offered_more : (i v x : ℕ) {vs : List ℕ} {q : Queue} → Memᴰ x (v ∷ vs) ⊎ Has i x q → Has i v q → Memᴰ x vs ⊎ Has i x q
  offered_more i v x {vs} {q} (inl m) h = go (Memᴰ.cases_cons m)
    where
      go : (x ≡ v) ⊎ Memᴰ x vs → Memᴰ x vs ⊎ Has i x q
      go (inl e) = inr (subst (λ (y : ℕ). Has i y q) (sym e) h)
      go (inr k) = inl k
  offered_more i v x (inr k) h = inr k

  looking_there : (i v : ℕ) {o q : Queue} {vs : List ℕ} → Exploring i o (v ∷ vs) q → in_queue q v ≡ true → Exploring i o vs q
  looking_there i v l e = record {
    tree = l.tree;
    extends = l.extends;
    in_order = l.in_order;
    rising = l.rising.1;
    left = λ x m. l.left x (Memᴰ.tail m);
    greater = λ j z h f x m. l.greater j z h f x (Memᴰ.tail m);
    offered = λ x m. offered_more i v x (l.offered x m) (there_has i v l.tree e);
  }

  looking_added : (i v : ℕ) {o q : Queue} {vs : List ℕ} → i < size o → v < n → Exploring i o (v ∷ vs) q → in_queue q v ≡ false → Exploring i o vs (added i q v)
  looking_added i v {o} {q} {vs} b c l e = record {
    tree = tree_added nexts n w i v l.tree d c e (rw (l.extends.same_word i b) (l.left v (Memᴰ.head refl)));
    extends = extends_twice l.extends (extends_added i q v even);
    in_order = sorted_added i v even l.in_order newest;
    rising = l.rising.1;
    left = λ x m. l.left x (Memᴰ.tail m);
    greater = λ j z h. added_places i q v even (λ j y f. 0 < j → f ≡ i → (x : ℕ) → Memᴰ x vs → y < x) old_greater (λ z f x m. l.rising.0 x m) j h z;
    offered = λ x m. offered_more i v x (kept x (l.offered x m)) (has_new i q v even);
  }
    where
      even : length q.froms ≡ size q
      even = l.tree.proper.even

      d : i < size q
      d = let g = l.extends.longer in omega arith

      old_greater : (j : ℕ) → j < size q → 0 < j → from_at q j ≡ i → (x : ℕ) → Memᴰ x vs → word_at q j < x
      old_greater j h z f x m = l.greater j z h f x (Memᴰ.tail m)

      kept : (x : ℕ) → Memᴰ x (v ∷ vs) ⊎ Has i x q → Memᴰ x (v ∷ vs) ⊎ Has i x (added i q v)
      kept x (inl m) = inl m
      kept x (inr h) = inr (has_added i v even h)

      newest : (j : ℕ) → 0 < j → j < size q → Earlier (from_at q j) (word_at q j) i v
      newest j z h = go (eq-or-lt_of_le (from_most i l.tree j h))
        where
          go : (from_at q j ≡ i) ⊎ (from_at q j < i) → Earlier (from_at q j) (word_at q j) i v
          go (inl f) = inr (f, l.greater j z h f v (Memᴰ.head refl))
          go (inr f) = inl f

  looking_all : (i : ℕ) {o : Queue} → i < size o → (vs : List ℕ) → ((v : ℕ) → Memᴰ v vs → v < n) → (q : Queue) → Exploring i o vs q → Exploring i o [] (offer_all i q vs)
  looking_all i b [] c q l = rw (offer_all_none i q) l
  looking_all i {o} b (v ∷ vs) c q l =
      rw (offer_all_cons i q v vs) (looking_all i b vs (λ x m. c x (Memᴰ.tail m)) (offer i q v)
      (offer_cases (Exploring i o vs) i q v (looking_there i v l) (looking_added i v b (c v (Memᴰ.head refl)) l)))

  module _ (asc : (w : ℕ) → Ascending (nexts w)) (lower : (w v : ℕ) → Memᴰ v (nexts w) → v < n) where
    pub explored_on : (i : ℕ) {q : Queue} → Explored i q → i < size q → Explored (suc i) (offer_all i q (nexts (word_at q i)))
    explored_on i {q} x b = record {
      tree = l.tree;
      in_order = l.in_order;
      closed = λ j h. closes j (eq-or-lt_of_le (le_of_suc-le-suc h));
    }
      where
        vs : List ℕ
        vs = nexts (word_at q i)

        r : Queue
        r = offer_all i q vs

        l : Exploring i q [] r
        l = looking_all i b vs (λ v m. lower (word_at q i) v m) q (record {
          tree = tree_more nexts n w x.tree;
          extends = extends_same q;
          in_order = x.in_order;
          rising = asc (word_at q i);
          left = λ v m. m;
          greater = λ j z h f v m. let k = x.tree.recent j z h in absurd (omega arith);
          offered = λ v m. inl m;
        })

        last_offered : (v : ℕ) → Memᴰ v [] ⊎ Has i v r → Has i v r
        last_offered v (inl m) = absurd (Memᴰ.not-nil m)
        last_offered v (inr h) = h

        extends_has : (j v : ℕ) → Has j v q → Has j v r
        extends_has j v h = record {
          place = h.place;
          inside = let g = l.extends.longer in omega arith;
          word = l.extends.same_word h.place h.inside ∙ h.word;
          found_from = rw (l.extends.same_from h.place h.inside) h.found_from;
        }

        closes : (j : ℕ) → (j ≡ i) ⊎ (j < i) → (v : ℕ) → Memᴰ v (nexts (word_at r j)) → Has j v r
        closes j (inl f) v m = subst (λ (k : ℕ). Memᴰ v (nexts (word_at r k)) → Has k v r) (sym f) (λ c. last_offered v (l.offered v (subst (λ (y : ℕ). Memᴰ v (nexts y)) (l.extends.same_word i b) c))) m
        closes j (inr f) v m = extends_has j v (x.closed j f v (rw (l.extends.same_word j (omega arith)) at m))

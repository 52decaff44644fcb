-- The least way of the rules: it is a way, no way is shorter, none as long is smaller, and it is found wherever a way exists.
-- The last: a shortest way passes no word twice, so it has fewer words after the first than there are words.
use Prim.Native.Nat.{ℕ, zero, suc, ◌≤◌, ◌<◌}
use mathlib.Core.Path.{◌≡◌, refl, sym, ◌∙◌, ap, subst}
use mathlib.Core.Logic.{◌⊎◌, inl, inr}
use mathlib.Core.List.Memᴰ
use mathlib.Core.List.{List, ◌∷◌, Memᴰ, tail-eq_of_cons-eq}
use mathlib.Core.Bool.{Bool, true, false}
use mathlib.Core.Option.{Option, none, some, map, some-ne-none, map-eq-some_iff}
use native.Mathlib.Nat.{eq-or-lt_of_le, le_of_suc-le-suc}
use native.Mathlib.Omega.{arith}
use lib.ListN.{length}
use lib.Dec.{ltb}
use borrow.Author.Tests.{ltb-true, ltb-false}
use Rattle.model.specs.Lists.{numbers_below, first, Ascending}
use Rattle.rules.specs.Search.{followed, goal_in, words_to, least_from}
use Rattle.least.specs.Ways.{Way, ends, goes, Before, differs, later}
use Rattle.model.proofs.AscendingLaws.{NoRepeats, below_ascending}
use Rattle.model.proofs.BoolLaws.{both_ways}
use Rattle.model.proofs.ListLaws.{any_true, true_any, first_some, first_none, mem_below, below_mem}
use Rattle.least.proofs.FirstLaws.{first_exists, first_ascending}
use Rattle.least.proofs.RepeatLaws.{no_repeats_length}

module _ (nexts : ℕ → List ℕ) (goal : ℕ → Bool) where
  -- the words read off are a way, with exactly k words
  pub words_way : (k w : ℕ) → goal_in nexts goal k w ≡ true → Way nexts goal w (words_to nexts goal k w) × (length (words_to nexts goal k w) ≡ k)
  unfolding goal_in words_to
  words_way zero w e = (ends e, refl)
  words_way (suc k) w e = go (first (goal_in nexts goal k) (nexts w)) refl (words_way k)
    where
      go : (o : Option ℕ) → first (goal_in nexts goal k) (nexts w) ≡ o
          → ((v : ℕ) → goal_in nexts goal k v ≡ true → Way nexts goal v (words_to nexts goal k v) × (length (words_to nexts goal k v) ≡ k))
          → Way nexts goal w (followed o (words_to nexts goal k)) × (length (followed o (words_to nexts goal k)) ≡ suc k)
      go none q ih = let a = any_true (goal_in nexts goal k) (nexts w) e in both_ways a.2 (first_none (goal_in nexts goal k) q a.1)
      go (some v) q ih =
          let s = first_some (goal_in nexts goal k) (nexts w) q in
          let r = ih v s.1 in
          (goes s.0 r.0, ap suc r.1)

  -- and every way is counted
  pub way_goal_in : {w : ℕ} {us : List ℕ} → Way nexts goal w us → goal_in nexts goal (length us) w ≡ true
  unfolding goal_in
  way_goal_in (ends e) = e
  way_goal_in (goes {vs = vs} m r) = true_any (goal_in nexts goal (length vs)) m (way_goal_in r)

  -- no way of k words is smaller than the words read off
  pub words_smallest : ((w : ℕ) → Ascending (nexts w)) → {w : ℕ} {us : List ℕ} → Way nexts goal w us
      → (words_to nexts goal (length us) w ≡ us) ⊎ Before (words_to nexts goal (length us) w) us
  unfolding words_to
  words_smallest asc (ends e) = inl refl
  words_smallest asc (goes {w = w} {v = v} {vs = vs} m r) = go (first (goal_in nexts goal (length vs)) (nexts w)) refl (words_smallest asc r)
    where
      k : ℕ
      k = length vs

      at_first : (u : ℕ) → (u ≡ v) ⊎ (u < v) → (words_to nexts goal k v ≡ vs) ⊎ Before (words_to nexts goal k v) vs
          → (u ∷ words_to nexts goal k u ≡ v ∷ vs) ⊎ Before (u ∷ words_to nexts goal k u) (v ∷ vs)
      at_first u (inl e) (inl q) = inl (ap (λ (x : ℕ). x ∷ words_to nexts goal k x) e ∙ ap (λ (l : List ℕ). v ∷ l) q)
      at_first u (inl e) (inr b) = inr (subst (λ (x : ℕ). Before (x ∷ words_to nexts goal k x) (v ∷ vs)) (sym e) (later b))
      at_first u (inr l) c = inr (differs l)

      go : (o : Option ℕ) → first (goal_in nexts goal k) (nexts w) ≡ o → (words_to nexts goal k v ≡ vs) ⊎ Before (words_to nexts goal k v) vs
          → (followed o (words_to nexts goal k) ≡ v ∷ vs) ⊎ Before (followed o (words_to nexts goal k)) (v ∷ vs)
      go none q ih = both_ways (way_goal_in r) (first_none (goal_in nexts goal k) q m)
      go (some u) q ih = at_first u (eq-or-lt_of_le (first_ascending (goal_in nexts goal k) (nexts w) (asc w) q m (way_goal_in r))) ih

  -- k is the least number of words that will do
  pub record Fewest (k w : ℕ) : Type 0 where
    pub will_do : goal_in nexts goal k w ≡ true
    pub fewest : (j : ℕ) → goal_in nexts goal j w ≡ true → k ≤ j

  -- the first number below n that will do is the least of all
  first_fewest : (n w : ℕ) {k : ℕ} → first (λ j. goal_in nexts goal j w) (numbers_below n) ≡ some k → (k < n) × Fewest k w
  first_fewest n w {k} e = (mem_below n s.0, record { will_do = s.1; fewest = λ j p. go j p (ltb j n) refl })
    where
      s : Memᴰ k (numbers_below n) × (goal_in nexts goal k w ≡ true)
      s = first_some (λ j. goal_in nexts goal j w) (numbers_below n) e

      go : (j : ℕ) → goal_in nexts goal j w ≡ true → (t : Bool) → ltb j n ≡ t → k ≤ j
      go j p true q = first_ascending (λ j. goal_in nexts goal j w) (numbers_below n) (below_ascending n) e (below_mem n j (ltb-true j n q)) p
      go j p false q = let b : n ≤ j = ltb-false j n q in let c : k < n = mem_below n s.0 in omega arith

  -- what the least way is made of
  least_count : (n w : ℕ) {r : List ℕ} → least_from nexts goal n w ≡ some r → (k : ℕ) × ((k < n) × Fewest k w) × (w ∷ words_to nexts goal k w ≡ r)
  unfolding least_from
  least_count n w {r} e =
      let s = (map-eq-some_iff (λ k. w ∷ words_to nexts goal k w) (first (λ j. goal_in nexts goal j w) (numbers_below n))).0 e in
      (s.0, first_fewest n w s.1, s.2)

  pub least_sound : (n w : ℕ) {r : List ℕ} → least_from nexts goal n w ≡ some r → (vs : List ℕ) × (r ≡ w ∷ vs) × Way nexts goal w vs × (length vs < n)
  least_sound n w e =
      let (k, f, q) = least_count n w e in
      let b = words_way k w f.1.will_do in
      (words_to nexts goal k w, sym q, b.0, rw b.1 f.0)

  -- the words after the first
  least_words : (n w : ℕ) {vs : List ℕ} → least_from nexts goal n w ≡ some (w ∷ vs) → Fewest (length vs) w × (words_to nexts goal (length vs) w ≡ vs)
  least_words n w {vs} e =
      let (k, f, q) = least_count n w e in
      let v : words_to nexts goal k w ≡ vs = tail-eq_of_cons-eq q in
      let l : k ≡ length vs = sym (words_way k w f.1.will_do).1 ∙ ap length v in
      (rw l at f.1, rw l at v)

  pub least_shortest : (n w : ℕ) {vs us : List ℕ} → least_from nexts goal n w ≡ some (w ∷ vs) → Way nexts goal w us → length vs ≤ length us
  least_shortest n w {us = us} e r = (least_words n w e).0.fewest (length us) (way_goal_in r)

  pub least_smallest : ((w : ℕ) → Ascending (nexts w)) → (n w : ℕ) {vs us : List ℕ} → least_from nexts goal n w ≡ some (w ∷ vs) → Way nexts goal w us
      → length us ≡ length vs → (vs ≡ us) ⊎ Before vs us
  least_smallest asc n w {vs} {us} e r l =
      let q : words_to nexts goal (length us) w ≡ vs = rw l (least_words n w e).1 in
      rw q at (words_smallest asc r)

  -- a way goes on from each word that it passes
  way_from : {w x : ℕ} {us : List ℕ} → Way nexts goal w us → Memᴰ x us → (xs : List ℕ) × Way nexts goal x xs × (length xs < length us)
  way_from {x = x} (goes {v = v} {vs = vs} m r) i = go (Memᴰ.cases_cons i) (λ j. way_from r j)
    where
      go : (x ≡ v) ⊎ Memᴰ x vs → (Memᴰ x vs → (xs : List ℕ) × Way nexts goal x xs × (length xs < length vs))
          → (xs : List ℕ) × Way nexts goal x xs × (length xs < suc (length vs))
      go (inl e) ih = (vs, subst (λ (y : ℕ). Way nexts goal y vs) (sym e) r, omega arith)
      go (inr j) ih = let (xs, s, l) = ih j in (xs, s, omega arith)
  way_from (ends e) i = absurd (Memᴰ.not-nil i)

  -- a shortest way passes no word twice: it could be cut short between the two
  shortest_no_repeats : {w : ℕ} {us : List ℕ} → Way nexts goal w us → ((xs : List ℕ) → Way nexts goal w xs → length us ≤ length xs) → NoRepeats (w ∷ us)
  shortest_no_repeats (ends e) h = (Memᴰ.not-nil, tt)
  shortest_no_repeats (goes {w = w} {v = v} {vs = vs} m r) h = (again, shortest_no_repeats r (λ xs s. le_of_suc-le-suc (h (v ∷ xs) (goes m s))))
    where
      again : Memᴰ w (v ∷ vs) → ⊥
      again i = let (xs, s, l) = way_from (goes m r) i in let b : suc (length vs) ≤ length xs = h xs s in omega arith

  module _ (n : ℕ) (lower : (w v : ℕ) → Memᴰ v (nexts w) → v < n) where
    way_below : {w : ℕ} {us : List ℕ} → w < n → Way nexts goal w us → (x : ℕ) → Memᴰ x (w ∷ us) → x < n
    way_below b (ends e) x i = rw (Memᴰ.eq_of_singleton i) b
    way_below b (goes {w = w} {v = v} {vs = vs} m r) x i = go (Memᴰ.cases_cons i) (way_below (lower w v m) r x)
      where
        go : (x ≡ w) ⊎ Memᴰ x (v ∷ vs) → (Memᴰ x (v ∷ vs) → x < n) → x < n
        go (inl e) ih = rw e b
        go (inr j) ih = ih j

    fewest_below : (k w : ℕ) → w < n → Fewest k w → k < n
    fewest_below k w b f =
        let (r, l) = words_way k w f.will_do in
        let d : NoRepeats (w ∷ words_to nexts goal k w) = shortest_no_repeats r (λ xs s. rw l (f.fewest (length xs) (way_goal_in s))) in
        let c : suc (length (words_to nexts goal k w)) ≤ n = no_repeats_length n (w ∷ words_to nexts goal k w) d (way_below b r) in
        omega arith

    pub least_exists : {w : ℕ} {us : List ℕ} → w < n → Way nexts goal w us → (r : List ℕ) × (least_from nexts goal n w ≡ some r)
    unfolding least_from
    least_exists {w} {us} b r =
        let (k, f) = some_fewest in
        let (j, q) = first_exists (λ i. goal_in nexts goal i w) (numbers_below n) (below_mem n k (fewest_below k w b f)) f.will_do in
        (w ∷ words_to nexts goal j w, ap (map (λ i. w ∷ words_to nexts goal i w)) q)
      where
        some_fewest : (k : ℕ) × Fewest k w
        some_fewest =
            let m : ℕ = suc (length us) in
            let (k, e) = first_exists (λ j. goal_in nexts goal j w) (numbers_below m) (below_mem m (length us) (omega arith)) (way_goal_in r) in
            (k, (first_fewest m w e).1)

    pub least_none : {w : ℕ} {us : List ℕ} → w < n → least_from nexts goal n w ≡ none → Way nexts goal w us → ⊥
    least_none b e r = let s = least_exists b r in some-ne-none s.0 (sym s.1 ∙ e)

-- The words found in rounds are those that some way leads to, ascending, and so are the words of a queue looked at to its end: it has as many.
-- A way that leads to a word can be cut short to fewer than n words, one widened for each; a queue looked at to its end has all next words of its words.
use Prim.Native.Nat.{ℕ, zero, suc, ◌≤◌, ◌<◌}
use mathlib.Core.Path.{◌≡◌, refl, sym, ◌∙◌, subst}
use mathlib.Core.Logic.{◌⊎◌, inl, inr, ⊎_elim}
use mathlib.Core.List.Memᴰ
use mathlib.Core.List.{List, [], ◌∷◌, Memᴰ}
use mathlib.Core.Bool.{true}
use native.Mathlib.Omega.{arith}
use lib.ListN.{length}
use lib.Dec.{eqb}
use borrow.Author.Tests.{eqb-true, eq-eqb}
use Rattle.model.specs.Lists.{numbers_below, keep, any_of, n_times, Ascending}
use Rattle.model.proofs.BoolLaws.{or_left, or_right, or_cases}
use Rattle.model.proofs.ListLaws.{mem_below, below_mem, mem_keep, keep_mem, any_true, true_any, any_mem, mem_any, n_times_keeps}
use Rattle.model.proofs.AscendingLaws.{same_numbers, keep_ascending, below_ascending, ascending_no_repeats}
use Rattle.model.proofs.PlaceLaws.{mem_get_or, get_or_mem}
use Rattle.rules.specs.SearchCount.{among_or_next, found_from}
use Rattle.least.specs.Queue.{Queue}
use Rattle.least.specs.Ways.{Way, ends, goes}
use Rattle.least.proofs.LeastWay.{least_sound, least_exists}
use Rattle.least.proofs.RepeatLaws.{no_repeats_length}
use Rattle.least.proofs.QueueLaws.{size, word_at}
use Rattle.least.proofs.QueueTree.{Has}
use Rattle.least.proofs.PathLaws.{back_exists}
use Rattle.least.proofs.Explored.{Explored}
use Rattle.least.proofs.BreadthFirst.{back_way}

module _ (nexts : ℕ → List ℕ) where
  -- some way leads from w to v
  abbrev pub Leads : ℕ → ℕ → Type 0
  Leads w v = (us : List ℕ) × Way nexts (eqb v) w us

  -- and on to a next word of v
  leads_on : {v w x : ℕ} {us : List ℕ} → Way nexts (eqb v) w us → Memᴰ x (nexts v) → Leads w x
  leads_on {v} {w} {x} (ends e) m = (x ∷ [], goes (subst (λ (y : ℕ). Memᴰ x (nexts y)) (eqb-true v w e) m) (ends (eq-eqb x x refl)))
  leads_on (goes {v = u} h r) m = let (vs, y) = leads_on r m in (u ∷ vs, goes h y)

  module _ (n : ℕ) where
    -- one pass: the next words added
    abbrev widened : List ℕ → List ℕ
    widened ws = keep (among_or_next nexts ws) (numbers_below n)

    widened_cases : (ws : List ℕ) {x : ℕ} → Memᴰ x (widened ws) → Memᴰ x ws ⊎ ((u : ℕ) × Memᴰ u ws × Memᴰ x (nexts u))
    widened_cases ws {x} m = go (or_cases (any_of (eqb x) ws) (any_of (λ w. any_of (eqb x) (nexts w)) ws) (mem_keep (among_or_next nexts ws) (numbers_below n) m).1)
      where
        go : (any_of (eqb x) ws ≡ true) ⊎ (any_of (λ w. any_of (eqb x) (nexts w)) ws ≡ true) → Memᴰ x ws ⊎ ((u : ℕ) × Memᴰ u ws × Memᴰ x (nexts u))
        go (inl e) = inl (any_mem x ws e)
        go (inr e) = let (u, h, f) = any_true (λ w. any_of (eqb x) (nexts w)) ws e in inr (u, h, any_mem x (nexts u) f)

    module _ (lower : (w v : ℕ) → Memᴰ v (nexts w) → v < n) where
      widened_old : {ws : List ℕ} {x : ℕ} → Memᴰ x ws → x < n → Memᴰ x (widened ws)
      widened_old {ws} {x} m h =
          keep_mem (among_or_next nexts ws) (below_mem n x h)
          (or_left (any_of (eqb x) ws) (any_of (λ w. any_of (eqb x) (nexts w)) ws) (mem_any m))

      widened_next : {ws : List ℕ} {u x : ℕ} → Memᴰ u ws → Memᴰ x (nexts u) → Memᴰ x (widened ws)
      widened_next {ws} {u} {x} m k =
          keep_mem (among_or_next nexts ws) (below_mem n x (lower u x k))
          (or_right (any_of (eqb x) ws) (any_of (λ w. any_of (eqb x) (nexts w)) ws) (true_any (λ w. any_of (eqb x) (nexts w)) m (mem_any k)))

      -- as many passes as a way has words find where it leads
      widening_finds : (k : ℕ) {ws : List ℕ} {u x : ℕ} {us : List ℕ} → Way nexts (eqb x) u us → Memᴰ u ws → u < n → length us ≤ k → Memᴰ x (n_times k widened ws)
      widening_finds zero {ws} {u} {x} (ends e) m h l = subst (λ (y : ℕ). Memᴰ y ws) (sym (eqb-true x u e)) m
      widening_finds zero (goes k r) m h l = absurd (omega arith)
      widening_finds (suc k) (ends e) m h l = widening_finds k (ends e) (widened_old m h) h (omega arith)
      widening_finds (suc k) (goes {w = u} {v = v} f r) m h l = widening_finds k r (widened_next m f) (lower u v f) (omega arith)

      module _ {w : ℕ} (below : w < n) where
        pub found_leads : {x : ℕ} → Memᴰ x (found_from nexts n w) → Leads w x
        unfolding found_from
        found_leads {x} m = n_times_keeps (λ ws. (y : ℕ) → Memᴰ y ws → Leads w y) widened more n (w ∷ []) at_first x m
          where
            at_first : (y : ℕ) → Memᴰ y (w ∷ []) → Leads w y
            at_first y h = ([], ends (eq-eqb y w (Memᴰ.eq_of_singleton h)))

            more : (ws : List ℕ) → ((y : ℕ) → Memᴰ y ws → Leads w y) → (y : ℕ) → Memᴰ y (widened ws) → Leads w y
            more ws ih y h = ⊎_elim (ih y) (λ k. leads_on (ih k.0 k.1).1 k.2) (widened_cases ws h)

        pub leads_found : {x : ℕ} → Leads w x → Memᴰ x (found_from nexts n w)
        unfolding found_from
        leads_found {x} (us, r) =
            let (s, e) = least_exists nexts (eqb x) n lower below r in
            let (vs, d, y, l) = least_sound nexts (eqb x) n w e in
            widening_finds n y (Memᴰ.head refl) below (omega arith)

        pub found_ascending : Ascending (found_from nexts n w)
        unfolding found_from
        found_ascending =
            n_times_keeps Ascending widened (λ ws h. keep_ascending (among_or_next nexts ws) (numbers_below n) (below_ascending n)) n (w ∷ [])
            (λ b h. absurd (Memᴰ.not-nil h), tt)

        found_below : (x : ℕ) → Memᴰ x (found_from nexts n w) → x < n
        unfolding found_from
        found_below =
            n_times_keeps (λ ws. (x : ℕ) → Memᴰ x ws → x < n) widened (λ ws h x m. mem_below n (mem_keep (among_or_next nexts ws) (numbers_below n) m).0) n (w ∷ [])
            (λ x m. rw (Memᴰ.eq_of_singleton m) below)

        pub found_most : length (found_from nexts n w) ≤ n
        found_most = no_repeats_length n (found_from nexts n w) (ascending_no_repeats (found_from nexts n w) found_ascending) found_below

        module _ {i : ℕ} {q : Queue} (x : Explored nexts n w i q) (all : size q ≤ i) where
          in_queue_leads : {v : ℕ} → Memᴰ v q.words → Leads w v
          in_queue_leads {v} m =
              let (j, h, e) = mem_get_or 0 m in
              let (p, s) = back_exists x.tree.proper j h in
              let (vs, f, y) = back_way nexts (eqb v) n w x.tree s h (ends (eq-eqb v (word_at q j) (sym e))) in
              (vs, y)

          leads_in_queue : {v u : ℕ} {us : List ℕ} → Way nexts (eqb v) u us → (k : ℕ) → k < size q → word_at q k ≡ u → Memᴰ v q.words
          leads_in_queue {v} {u} (ends e) k h f = subst (λ (y : ℕ). Memᴰ y q.words) (f ∙ sym (eqb-true v u e)) (get_or_mem 0 q.words k h)
          leads_in_queue (goes {v = y} m r) k h f =
              let there : Has k y q = x.closed k (omega arith) y (subst (λ (z : ℕ). Memᴰ y (nexts z)) (sym f) m) in
              leads_in_queue r there.place there.inside there.word

          pub queue_found : size q ≡ length (found_from nexts n w)
          queue_found =
              same_numbers q.words (found_from nexts n w) x.tree.proper.different (ascending_no_repeats (found_from nexts n w) found_ascending)
              (λ v m. leads_found (in_queue_leads m))
              (λ v m. leads_in_queue (found_leads m).1 0 x.tree.proper.begun x.tree.first_word)

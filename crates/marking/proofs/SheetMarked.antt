-- Demand 2 of the marker: a sheet is marked 0 exactly where it is right; and the key's own answer as a sheet is right.
-- A plan by PlanMarked; a claim because the named carriers are the blocked ones, and ascending lists with the same members are equal.
use Prim.Native.Nat.{ℕ, zero, suc}
use mathlib.Core.List.Memᴰ
use mathlib.Core.List.{List, [], ◌∷◌, Memᴰ}
use mathlib.Core.Path.{◌≡◌, refl, sym, ap, ap₂, ◌∙◌, subst}
use mathlib.Core.Bool.{Bool, true, false, cond, false≢true}
use mathlib.Core.Logic.{inl, inr, ◌↔◌}
use native.Mathlib.Omega.{arith}
use native.Mathlib.Nat.{le_refl}
use lib.ListN.{length}
use lib.Dec.{eqb}
use borrow.Author.Tests.{eqb-true, eq-eqb, ne_eqb}
use Rattle.model.proofs.BoolLaws.{and_left, and_right, and_both}
use Rattle.model.proofs.AscendingLaws.{ascending_unique}
use Rattle.model.specs.Lists.{Ascending}
use Rattle.model.specs.Track.{Track}
use Rattle.model.specs.Position.{Position}
use Rattle.model.specs.Accepted.{Laid}
use Rattle.rules.specs.Routes.{Blocked, Empty}
use Rattle.rules.specs.Key.{plan_words, named, run, verdict_of}
use Rattle.rules.specs.Sheet.{BlockedNamed, Right, same_list, mark_claim, mark_claim_by, mark_for, mark_for_by}
use Rattle.order.proofs.Named.{named_iff_blocked, named_ascending, named_left, unnamed_iff_ordered}
use Rattle.order.proofs.KeyRun.{run_retires}
use Rattle.order.proofs.Verdicts.{verdict_ordered}
use Rattle.marking.proofs.PlanMarked.{not_zero, order_of_zero, zero_of_order}

same_of_test : (l m : List ℕ) → same_list l m ≡ true → l ≡ m
unfolding same_list
same_of_test [] [] h = refl
same_of_test [] (b ∷ m) h = absurd (false≢true h)
same_of_test (a ∷ l) [] h = absurd (false≢true h)
same_of_test (a ∷ l) (b ∷ m) h =
    ap₂ (λ (x : ℕ) (xs : List ℕ). x ∷ xs) (eqb-true a b (and_left (eqb a b) (same_list l m) h)) (same_of_test l m (and_right (eqb a b) (same_list l m) h))

test_of_same : (l : List ℕ) → same_list l l ≡ true
unfolding same_list
test_of_same [] = refl
test_of_same (a ∷ l) = and_both (eqb a a) (same_list l l) (eq-eqb a a refl) (test_of_same l)

module _ (t : Track) (p : Position) (laid : Laid t p) where
  claim_of_zero : (ws : List ℕ) → mark_claim t p ws ≡ 0 → BlockedNamed t p (1 ∷ ws)
  unfolding mark_claim_by
  claim_of_zero [] h = not_zero 34 h
  claim_of_zero (c ∷ cs) h = go (same_list (c ∷ cs) (named t p)) refl h
    where
      go : (b : Bool) → same_list (c ∷ cs) (named t p) ≡ b → cond b 0 35 ≡ zero → BlockedNamed t p (1 ∷ c ∷ cs)
      go true e z =
          let same : (c ∷ cs) ≡ named t p = same_of_test (c ∷ cs) (named t p) e in
          record {
            list = c ∷ cs;
            written = refl;
            not_empty = λ n. not_zero (length cs) (ap length n);
            ascending = subst (λ (l : List ℕ). Ascending l) (sym same) (named_ascending t p laid);
            blocked = subst (λ (l : List ℕ). (d : ℕ) → Memᴰ d l ↔ Blocked t p d) (sym same) (named_iff_blocked t p laid);
          }
      go false e z = not_zero 34 z

  zero_of_claim : (list : List ℕ) → (list ≡ [] → ⊥) → list ≡ named t p → mark_claim t p list ≡ 0
  unfolding mark_claim_by
  zero_of_claim [] some same = absurd (some refl)
  zero_of_claim (c ∷ cs) some same = ap (λ (b : Bool). cond b 0 35) (ap (same_list (c ∷ cs)) (sym same) ∙ test_of_same (c ∷ cs))

  list_of_blocked : {sheet : List ℕ} (b : BlockedNamed t p sheet) → b.list ≡ named t p
  list_of_blocked b =
      ascending_unique b.list (named t p) b.ascending (named_ascending t p laid)
      (λ c m. (named_iff_blocked t p laid c).1 ((b.blocked c).0 m))
      (λ c m. (b.blocked c).1 ((named_iff_blocked t p laid c).0 m))

  pub right_of_zero : (sheet : List ℕ) → mark_for t p sheet ≡ 0 → Right t p sheet
  unfolding mark_for_by
  right_of_zero [] h = not_zero 29 h
  right_of_zero (zero ∷ ws) h = inl (order_of_zero t (length ws) p ws (le_refl (length ws)) laid h)
  right_of_zero (suc zero ∷ ws) h = inr (claim_of_zero ws h)
  right_of_zero (suc (suc n) ∷ ws) h = not_zero 29 (rw (ne_eqb (suc (suc n)) 0 (λ e. omega arith), ne_eqb (suc (suc n)) 1 (λ e. omega arith)) at h)

  pub zero_of_right : (sheet : List ℕ) → Right t p sheet → mark_for t p sheet ≡ 0
  unfolding mark_for_by
  zero_of_right sheet (inl o) =
      rw o.written (zero_of_order t (length (plan_words o.entries)) (le_refl _) laid o.retires o.empty)
  zero_of_right sheet (inr b) = rw b.written (zero_of_claim b.list b.not_empty (list_of_blocked b))

  pub marked_right : (sheet : List ℕ) → (mark_for t p sheet ≡ 0) ↔ Right t p sheet
  marked_right sheet = (right_of_zero sheet, zero_of_right sheet)

  -- the position that the key's plan leaves is empty where nobody is named
  pub empty_of_unnamed : named t p ≡ [] → Empty (run t p).last
  empty_of_unnamed none c out = Memᴰ.not-nil (subst (λ (l : List ℕ). Memᴰ c l) none ((named_left t p).1 out))

  -- the key's own plan as a sheet passes on every ordered board
  pub key_plan_passes : verdict_of (named t p) ≡ 0 → mark_for t p (0 ∷ plan_words (run t p).plan) ≡ 0
  key_plan_passes v =
      zero_of_right (0 ∷ plan_words (run t p).plan)
      (inl (record { entries = (run t p).plan; last = (run t p).last; written = refl; retires = run_retires t p laid; empty = empty_of_unnamed ((unnamed_iff_ordered t p laid).1 ((verdict_ordered t p laid).0 v)) }))

  -- the key's list as a claim passes on every other board
  pub key_list_passes : (verdict_of (named t p) ≡ 0 → ⊥) → mark_for t p (1 ∷ named t p) ≡ 0
  unfolding mark_for_by
  key_list_passes v = zero_of_claim (named t p) (λ none. v (ap verdict_of none)) refl

-- The search count a round at a time.
-- A round's tries are counted and, where one goes, those of the position after it; with nobody out there is nothing to count.
use Prim.Native.Nat.{ℕ, zero, suc, ◌+◌, ◌≤◌}
use mathlib.Core.Path.{◌≡◌, refl, ◌∙◌, ap}
use mathlib.Core.List.{List}
use mathlib.Core.Option.{Option, none, some}
use native.Mathlib.Omega.{arith}
use lib.ListN.{length}
use Rattle.std.proofs.lemmas.List.{nil_from_length}
use Rattle.model.specs.Track.{Track}
use Rattle.model.specs.Position.{Position, retire, outs}
use Rattle.rules.specs.Routes.{Entry}
use Rattle.rules.specs.Key.{first_to_go}
use Rattle.rules.specs.SearchCount.{if_one_goes, sum_of_lengths, tried, tried_by, tries_for, tries_for_by, tries_by, searched_by, searched}
use Rattle.searchcount.proofs.Most.{sum_append}
use Rattle.search.proofs.Runs.{the_count}

module _ (t : Track) (p : Position) where
  -- what is counted after this round, with n rounds left
  rest : ℕ → ℕ
  rest n = sum_of_lengths (if_one_goes (first_to_go t p (outs p)) (λ e. tries_for n t (retire e.carrier p)))

  searched_round : (n : ℕ) → n + 1 ≡ length (outs p) → searched t p ≡ sum_of_lengths (tried t p (outs p)) + rest n
  unfolding searched_by tries_by tries_for_by rest
  searched_round n e =
      ap (λ (k : ℕ). sum_of_lengths (tries_for k t p)) (the_count e) ∙
      sum_append (tried t p (outs p)) (if_one_goes (first_to_go t p (outs p)) (λ e. tries_for n t (retire e.carrier p)))

  -- with nobody out there is nothing to count
  count_out : length (outs p) ≡ 0 → (searched t p ≡ 0) × (sum_of_lengths (tried t p (outs p)) ≡ 0)
  unfolding searched_by tries_by tries_for_by tried_by
  count_out e = (ap (λ (k : ℕ). sum_of_lengths (tries_for k t p)) e, ap (λ (l : List ℕ). sum_of_lengths (tried t p l)) (nil_from_length (outs p) e))

  pub round_within : sum_of_lengths (tried t p (outs p)) ≤ searched t p
  round_within = go (length (outs p)) refl
    where
      go : (n : ℕ) → length (outs p) ≡ n → sum_of_lengths (tried t p (outs p)) ≤ searched t p
      go zero e = omega (arith, count_out e)
      go (suc n) e = omega (arith, searched_round n (omega arith))

  none_rest : first_to_go t p (outs p) ≡ none → (n : ℕ) → rest n ≡ 0
  unfolding rest
  none_rest f n = ap (λ (o : Option Entry). sum_of_lengths (if_one_goes o (λ e. tries_for n t (retire e.carrier p)))) f

  pub searched_none : first_to_go t p (outs p) ≡ none → searched t p ≡ sum_of_lengths (tried t p (outs p))
  searched_none f = go (length (outs p)) refl
    where
      go : (n : ℕ) → length (outs p) ≡ n → searched t p ≡ sum_of_lengths (tried t p (outs p))
      go zero e = omega (arith, count_out e)
      go (suc n) e = omega (arith, searched_round n (omega arith), none_rest f n)

  pub searched_step : {e : Entry} → first_to_go t p (outs p) ≡ some e → length (outs (retire e.carrier p)) + 1 ≡ length (outs p)
      → searched t p ≡ sum_of_lengths (tried t p (outs p)) + searched t (retire e.carrier p)
  unfolding searched_by tries_by rest
  searched_step {e} f n =
      searched_round (length (outs (retire e.carrier p))) n ∙
      ap (λ (o : Option Entry). sum_of_lengths (tried t p (outs p)) + sum_of_lengths (if_one_goes o (λ d. tries_for (length (outs (retire e.carrier p))) t (retire d.carrier p)))) f

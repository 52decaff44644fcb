-- The key's run a step at a time.
-- With nobody to go, or nobody out, it ends; else the first to go leaves and the rest is the run after that.
use Prim.Native.Nat.{ℕ, zero, suc, ◌+◌}
use mathlib.Core.Path.{◌≡◌, refl, ◌∙◌, ap}
use mathlib.Core.List.{[], ◌∷◌}
use mathlib.Core.Option.{Option, none, some}
use native.Mathlib.Omega.{arith}
use lib.ListN.{length}
use Rattle.model.specs.Track.{Track}
use Rattle.model.specs.Position.{Position, retire, outs}
use Rattle.rules.specs.Routes.{Entry}
use Rattle.rules.specs.Key.{first_to_go, run_on, run_for, run_for_by, run, run_by}

-- one more was out
pub the_count : {m n : ℕ} → m + 1 ≡ n → n ≡ suc m
the_count e = omega arith

module _ (t : Track) (p : Position) where
  pub run_none : first_to_go t p (outs p) ≡ none → run t p ≡ record { plan = []; last = p }
  unfolding run_by run_for_by
  run_none e = go (length (outs p))
    where
      go : (n : ℕ) → run_for n t p ≡ record { plan = []; last = p }
      go zero = refl
      go (suc n) = ap (λ (o : Option Entry). run_on p o (λ e. run_for n t (retire e.carrier p))) e

  pub run_step : {e : Entry} → first_to_go t p (outs p) ≡ some e → length (outs (retire e.carrier p)) + 1 ≡ length (outs p)
      → run t p ≡ record { plan = e ∷ (run t (retire e.carrier p)).plan; last = (run t (retire e.carrier p)).last }
  unfolding run_by run_for_by
  run_step {e} f n =
      ap (λ (k : ℕ). run_for k t p) (the_count n) ∙
      ap (λ (o : Option Entry). run_on p o (λ d. run_for (length (outs (retire e.carrier p))) t (retire d.carrier p))) f

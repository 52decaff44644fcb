-- The step rule as tested is the step rule as stated: `steps` with a word below 2 × Z holds exactly where `Step` does, and so for the older rule.
-- Each part of the test against the part of the record that it tests.
use Prim.Native.Nat.{ℕ, ◌*◌, ◌<◌}
use mathlib.Core.Path.{◌≡◌, ap}
use mathlib.Core.Bool.{Bool, true, not, ◌&&◌}
use mathlib.Core.Logic.{inl, inr, ⊎_elim}
use lib.Dec.{eqb}
use borrow.Author.Tests.{eqb-true, eqb-false, eq-eqb, ne_eqb, not-true}
use Rattle.model.proofs.BoolLaws.{and_left, and_right, and_both, or_left, or_right, or_cases}
use Rattle.model.specs.Track.{Track, zone_of, start, leave}
use Rattle.model.specs.Position.{Position, at, carrier_of}
use Rattle.rules.specs.Routes.{UngatedStep, Step}
use Rattle.rules.specs.Key.{may_enter, leaves_home, ungated_steps, steps}

module _ (t : Track) (p : Position) (c w v : ℕ) where
  pub ungated_of_test : v < 2 * t.zones → ungated_steps t p c w v ≡ true → UngatedStep t p c w v
  ungated_of_test below test =
      record {
        word = below;
        touches = eqb-true (start t v) (leave t w) (and_left (eqb (start t v) (leave t w)) (not same && may_enter p c v) test);
        another = eqb-false (zone_of v) (zone_of w) (not-true same (and_left (not same) (may_enter p c v) rest));
        clear = ⊎_elim (λ h. inl (eqb-true (at p (zone_of v)) 0 h)) (λ h. inr (eqb-true (carrier_of (at p (zone_of v))) c h)) (or_cases (eqb (at p (zone_of v)) 0) (eqb (carrier_of (at p (zone_of v))) c) (and_right (not same) (may_enter p c v) rest));
      }
    where
      same : Bool
      same = eqb (zone_of v) (zone_of w)

      rest : (not same && may_enter p c v) ≡ true
      rest = and_right (eqb (start t v) (leave t w)) (not same && may_enter p c v) test

  pub test_of_ungated : UngatedStep t p c w v → ungated_steps t p c w v ≡ true
  test_of_ungated s =
      and_both (eqb (start t v) (leave t w)) (not (eqb (zone_of v) (zone_of w)) && may_enter p c v) (eq-eqb (start t v) (leave t w) s.touches)
      (and_both (not (eqb (zone_of v) (zone_of w))) (may_enter p c v) (ap not (ne_eqb (zone_of v) (zone_of w) s.another))
      (⊎_elim (λ h. or_left (eqb (at p (zone_of v)) 0) (eqb (carrier_of (at p (zone_of v))) c) (eq-eqb (at p (zone_of v)) 0 h)) (λ h. or_right (eqb (at p (zone_of v)) 0) (eqb (carrier_of (at p (zone_of v))) c) (eq-eqb (carrier_of (at p (zone_of v))) c h)) s.clear))

  pub step_of_test : v < 2 * t.zones → steps t p c w v ≡ true → Step t p c w v
  step_of_test below test =
      record {
        ungated = ungated_of_test below (and_right (not (leaves_home t w)) (ungated_steps t p c w v) test);
        gate = eqb-false (leave t w) t.home (not-true (leaves_home t w) (and_left (not (leaves_home t w)) (ungated_steps t p c w v) test));
      }

  pub test_of_step : Step t p c w v → steps t p c w v ≡ true
  test_of_step s = and_both (not (leaves_home t w)) (ungated_steps t p c w v) (ap not (ne_eqb (leave t w) t.home s.gate)) (test_of_ungated s.ungated)

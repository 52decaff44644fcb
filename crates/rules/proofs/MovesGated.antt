-- The home gate in single moves: a carrier that heads for the home point goes only into home, and all else is as by the older rule.
-- By the one case of a move into a word; where no carrier stands in two zones, the standing that it names is the carrier's.
use Prim.Native.Nat.{ℕ}
use mathlib.Core.Path.{◌≡◌, ap, ◌∙◌}
use Rattle.model.specs.Track.{Track, leave}
use Rattle.model.specs.Position.{Position, Stands, Once}
use Rattle.rules.specs.Routes.{LeavesElsewhere}
use Rattle.rules.specs.Tries.{Move, into, home, Allowed, UngatedAllowed, enters, arrives}

module _ {t : Track} {p : Position} where
  -- what is allowed was allowed
  pub allowed_before : {m : Move} {q : Position} → Allowed t p m q → UngatedAllowed t p m q
  allowed_before (enters u s elsewhere below free touches) = enters u s tt below free touches
  allowed_before (arrives u s e) = arrives u s e

  pub gate_shut : {c u w : ℕ} {q : Position} → Once p → Stands p c u → leave t u ≡ t.home → Allowed t p (into c w) q → ⊥
  gate_shut {c = c} {u} once s e (enters x y elsewhere below free touches) = elsewhere (ap (leave t) (once c x u y s) ∙ e)

  pub gate_passed : {c u w : ℕ} {q : Position} → Once p → Stands p c u → LeavesElsewhere t u → UngatedAllowed t p (into c w) q → Allowed t p (into c w) q
  gate_passed {c = c} {u} once s n (enters x y any below free touches) = enters x y (λ e. n (ap (leave t) (once c u x s y) ∙ e)) below free touches

  pub home_as_before : {c : ℕ} {q : Position} → UngatedAllowed t p (home c) q → Allowed t p (home c) q
  home_as_before (arrives u s e) = arrives u s e

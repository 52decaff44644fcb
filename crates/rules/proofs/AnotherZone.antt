-- A zone isn't entered again straight after itself. On a route: `another` of the step that leads from the one word to the other. By a single move:
-- the law of MoveElsewhere.
use Prim.Native.Nat.{ℕ}
use mathlib.Core.List.{List, [], ◌∷◌, ◌++◌}
use mathlib.Core.Path.{◌≡◌}
use Rattle.model.specs.Track.{Track, zone_of}
use Rattle.model.specs.Position.{Position}
use Rattle.rules.specs.Routes.{Onward, goes, route}
use Rattle.rules.specs.AnotherZone.{RoutesGoElsewhere, MovesGoElsewhere}
use Rattle.rules.proofs.MoveElsewhere.{move_elsewhere}

onward_elsewhere : {t : Track} {p : Position} {c x : ℕ} (w v : ℕ) (us vs : List ℕ) → Onward t p c x (us ++ w ∷ v ∷ vs) → zone_of v ≡ zone_of w → ⊥
onward_elsewhere w v [] vs (goes s (goes r o)) = r.ungated.another
onward_elsewhere w v (u ∷ us) vs (goes s o) = onward_elsewhere w v us vs o

pub routes_go_elsewhere : RoutesGoElsewhere
routes_go_elsewhere t p c w v [] vs (route s (goes r o)) = r.ungated.another
routes_go_elsewhere t p c w v (u ∷ us) vs (route s o) = onward_elsewhere w v us vs o

pub moves_go_elsewhere : MovesGoElsewhere
moves_go_elsewhere t p q c u w s a = move_elsewhere s a

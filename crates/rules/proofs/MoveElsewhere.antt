-- A single move goes into another zone than the carrier's own, so none is entered again straight after itself, a turning loop neither: its
-- own zone is held, and a move goes into a free one. (In a route it is `another` of `UngatedStep`.)
use Prim.Native.Nat.{ℕ, ◌+◌, ◌*◌}
use mathlib.Core.Path.{◌≡◌, sym, ◌∙◌, ap}
use native.Mathlib.Omega.{arith}
use Rattle.model.specs.Track.{Track, zone_of, heading_of}
use Rattle.model.specs.Position.{Position, at, Stands}
use Rattle.rules.specs.Tries.{Allowed, enters, into}

pub move_elsewhere : {t : Track} {p : Position} {c w u : ℕ} {q : Position} → Stands p c u → Allowed t p (into c w) q → zone_of w ≡ zone_of u → ⊥
move_elsewhere {p = p} {c = c} {u = u} s (enters x y elsewhere below free touches) e =
    let held : 2 * c + heading_of u ≡ 0 = sym s.holds ∙ ap (at p) (sym e) ∙ free in
    s.numbered (omega arith)

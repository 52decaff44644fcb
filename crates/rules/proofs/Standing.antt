-- The zone that is found for a carrier is the one where it stands.
-- Of all zones with the carrier's number the first is found, and no carrier stands in two.
use Prim.Native.Nat.{ℕ, ◌<◌}
use mathlib.Core.Path.{◌≡◌, sym, ◌∙◌}
use mathlib.Core.Option.{some}
use native.Mathlib.Omega.{arith}
use lib.ListN.{length}
use lib.Dec.{eqb}
use borrow.Author.Tests.{eqb-true, eq-eqb, ne_eqb}
use Rattle.model.specs.Track.{zone_of}
use Rattle.model.specs.Position.{Position, at, carrier_of, Stands, Once, standing}
use Rattle.model.proofs.ListLaws.{first_below, below_first}
use Rattle.model.proofs.PositionLaws.{stands_carrier, held_stands}
use Rattle.rules.specs.Key.{zone_for}

-- what a zone holds, with its heading, is a standing
pub stands_in : (p : Position) (c z : ℕ) → (c ≡ 0 → ⊥) → z < length p → carrier_of (at p z) ≡ c → Stands p c (standing p z)
stands_in p c z numbered inside e = rw e at (held_stands p z inside (λ q. numbered (sym e ∙ q)))

pub zone_stands : (p : Position) (c z : ℕ) → (c ≡ 0 → ⊥) → zone_for p c ≡ some z → Stands p c (standing p z)
unfolding zone_for
zone_stands p c z numbered e =
    let f = first_below (λ z. eqb (carrier_of (at p z)) c) (length p) e in
    stands_in p c z numbered f.small (eqb-true _ _ f.passes)

pub stands_zone : {p : Position} {c w : ℕ} → Once p → Stands p c w → zone_for p c ≡ some (zone_of w)
unfolding zone_for
stands_zone {p} {c} {w} once s =
    below_first (λ z. eqb (carrier_of (at p z)) c) (length p) (zone_of w) s.inside (eq-eqb _ _ (stands_carrier s))
    (λ j h. ne_eqb _ _ (λ e. first_one j h (once c _ w (stands_in p c j s.numbered (omega (arith, s.inside)) e) s)))
  where
    first_one : (j : ℕ) → j < zone_of w → standing p j ≡ w → ⊥
    first_one j h e = omega arith

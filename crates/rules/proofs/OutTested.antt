-- A carrier that stands in a zone is still out by the marker's test.
-- A look through the position finds it in that zone.
use Prim.Native.Nat.{ℕ}
use mathlib.Core.Path.{◌≡◌, ap}
use mathlib.Core.Bool.{true, not}
use lib.Dec.{eqb}
use borrow.Author.Tests.{eq-eqb, ne_eqb}
use Rattle.model.specs.Lists.{any_of}
use Rattle.model.specs.Track.{zone_of}
use Rattle.model.specs.Position.{Position, at, carrier_of, Stands}
use Rattle.model.proofs.BoolLaws.{and_both}
use Rattle.model.proofs.ListLaws.{true_any}
use Rattle.model.proofs.PlaceLaws.{get_or_mem}
use Rattle.model.proofs.PositionLaws.{stands_carrier}
use Rattle.rules.specs.Sheet.{still_out}

pub stands_out : {p : Position} {c w : ℕ} → Stands p c w → still_out p c ≡ true
unfolding still_out
stands_out {p} {c} {w} s =
    and_both (not (eqb c 0)) (any_of (λ v. eqb (carrier_of v) c) p) (ap not (ne_eqb c 0 s.numbered))
    (true_any (λ v. eqb (carrier_of v) c) (get_or_mem 0 p (zone_of w) s.inside) (eq-eqb (carrier_of (at p (zone_of w))) c (stands_carrier s)))

-- A standing tested in code is a standing.
-- The test by its three parts.
use Prim.Native.Nat.{ℕ, ◌+◌, ◌*◌}
use mathlib.Core.Path.{◌≡◌}
use mathlib.Core.Bool.{true, not, ◌&&◌}
use native.Mathlib.Omega.{arith}
use lib.ListN.{length}
use lib.Dec.{ltb, eqb}
use borrow.Author.Tests.{ltb-true, eqb-true, eqb-false, not-true}
use Rattle.model.specs.Track.{zone_of, heading_of}
use Rattle.model.specs.Position.{Position, at, Stands}
use Rattle.model.proofs.BoolLaws.{and_left, and_right}
use Rattle.marker.specs.Marked.{stands_at}

pub standing_stands : (zones : ℕ) (p : Position) (c w : ℕ) → stands_at zones p c w ≡ true → length p ≡ zones → Stands p c w
standing_stands zones p c w s each =
    let below = ltb w (2 * zones) in
    let held = eqb (at p (zone_of w)) (2 * c + heading_of w) in
    let tests = and_right (not (eqb c 0)) (below && held) s in
    let inside = ltb-true w (2 * zones) (and_left below held tests) in
    record {
      numbered = eqb-false c 0 (not-true (eqb c 0) (and_left (not (eqb c 0)) (below && held) s));
      inside = omega arith;
      holds = eqb-true (at p (zone_of w)) (2 * c + heading_of w) (and_right below held tests);
    }

-- `arrays` fills the track's list of ends and the position, each made long enough by zeros.
-- The invariant: the first 2 × z ends and the first z places of the position are filled.
use Prim.Native.Nat.{◌<◌}
use native.Mathlib.Omega.{arith}
use Rattle.board.proofs.Filling.{few_zones, ends_next, ends_last, position_next, position_last}
use Rattle.board.proofs.fill.arrays.Goals.{At-loop-z, In-loop-z}
use Rattle.board.proofs.fill.arrays.Goals as goal

-- the zone is one of 96 at most, and both arrays have kept their length
few : (c : In-loop-z) → c.loop-z.z < 96
few c = few_zones c.requires.whole.1 c.byte-zones.ensures c.loop-z-test.true

pub loop-z-preserved : goal.loop-z-preserved
loop-z-preserved c =
    let inv = c.loop-z.invariant in
    let zone = c.zone_at-said.ensures in
    let small = few (goal.at.loop-z-preserved c).In-loop-z in
    (ends_next inv.0 zone small, position_next inv.1 zone small)

pub returns : goal.returns
returns c =
    let inv = c.loop-z.invariant in
    let zones = c.byte-zones.ensures in
    record { ends_after = ends_last inv.0 zones (omega arith) c.loop-z-test.false; position_after = position_last inv.1 zones (omega arith) c.loop-z-test.false }

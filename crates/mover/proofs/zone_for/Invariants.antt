-- `mover::zone_for` meets its contract: it gives the zone where the carrier stands.
-- The invariant: the first of the zones left that holds the carrier is the first of all (LookedTo). The measure is how many zones are left.
use lib.ListN.{length}
use Rattle.mover.proofs.ZoneLaws.{LookedTo}
use Rattle.mover.proofs.zone_for.Given as goal

abbrev pub invariant-loop-left : goal.invariant-loop-left
invariant-loop-left l = LookedTo l.position l.carrier l.left

abbrev pub decreases-loop-left : goal.decreases-loop-left
decreases-loop-left l = length l.left

-- `reach::grow_once` meets its contract: it finds the points that are reached from one, puts them into the set, and counts as many steps.
-- The invariant is Growing (laws of GrowLaws): a fresh point was not grown from, as the step asks. The measure: points not grown from.
use Prim.Native.Nat.{◌-◌}
use lib.Count.{ones}
use Rattle.reach.proofs.GrowLaws.{Growing}
use Rattle.reach.proofs.grow_once.Given as goal

abbrev pub invariant-loop-fresh : goal.invariant-loop-fresh
invariant-loop-fresh l = Growing l.ways l.from l.initial.grown l.grown l.found l.fresh

abbrev pub decreases-loop-fresh : goal.decreases-loop-fresh
decreases-loop-fresh l = 64 - ones l.grown.set

-- `parts::count_starts` meets its contract: it counts the free zones by the point at their end A.
-- The invariant: the counts are those of the zones below z (laws of StartLaws).
use Rattle.parts.specs.Ways.{StartCounts}
use Rattle.parts.proofs.count_starts.Given as goal

abbrev pub invariant-loop-z : goal.invariant-loop-z
invariant-loop-z l = StartCounts l.z l.ends l.position l.counts

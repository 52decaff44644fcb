-- `add_free` fills the set with the words of the free zones.
-- The invariant: the words of the free zones below z are in the set, and no others.
use Rattle.queue.proofs.WordSetLaws.{FreeBelow}
use Rattle.queue.proofs.sets.add_free.Given as goal

abbrev pub invariant-loop-z : goal.invariant-loop-z
invariant-loop-z l = FreeBelow l.position l.set l.z

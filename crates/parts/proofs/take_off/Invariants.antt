-- `parts::take_off` meets its contract: every carrier that leaves at a point of the set is taken off.
-- The invariant: the zones below z are done, the others as they were (laws of TakenOff).
use Rattle.parts.proofs.TakenOff.{Taking}
use Rattle.parts.proofs.take_off.Given as goal

abbrev pub invariant-loop-z : goal.invariant-loop-z
invariant-loop-z l = Taking l.ends l.set l.initial.position l.z l.position

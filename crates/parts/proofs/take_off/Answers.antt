-- `parts::take_off` meets its contract: every carrier that leaves at a point of the set is taken off.
-- The invariant: the zones below z are done, the others as they were (laws of TakenOff).
use native.Mathlib.Omega.{arith}
use Rattle.parts.proofs.TakenOff.{taking_all}
use Rattle.parts.proofs.take_off.Goals as goal

pub returns : goal.returns
returns c = taking_all _ _ _ c.loop-z.invariant (omega arith)

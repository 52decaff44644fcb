-- `reach::growing::step` meets its contract: it reads the word of p, puts p into the set and counts one step.
-- The contract of `with` tells the set; there is room for the step.
use mathlib.Core.Path.{refl}
use native.Mathlib.Omega.{arith}
use Rattle.reach.proofs.growing.step.Goals as goal

pub overflow_add-steps : goal.overflow_add-steps
overflow_add-steps c = omega (arith, c.requires.3)

pub returns : goal.returns
returns c = (refl, c.with-set.ensures, refl)

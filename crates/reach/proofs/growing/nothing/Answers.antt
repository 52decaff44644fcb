-- `reach::growing::nothing` meets its contract: no point and no step.
-- Both are written so.
use mathlib.Core.Path.{refl}
use Rattle.reach.proofs.growing.nothing.Goals as goal

pub returns : goal.returns
returns c = (refl, refl)

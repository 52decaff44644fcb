-- `bits::has` meets its contract: a shift and the lowest digit are what a bit is.
-- The definition, unfolded, is what the code computes.
use mathlib.Core.Path.{refl}
use Rattle.bits.specs.Sets.{has_bit}
use Rattle.bits.proofs.has.Goals as goal

pub returns : goal.returns
unfolding has_bit
returns c = refl

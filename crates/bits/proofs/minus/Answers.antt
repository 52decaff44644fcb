-- `bits::minus` meets its contract, which is its code.
-- The definition, unfolded, is what the code computes.
use mathlib.Core.Path.{refl}
use Rattle.bits.specs.Sets.{set_minus}
use Rattle.bits.proofs.minus.Goals as goal

pub returns : goal.returns
unfolding set_minus
returns c = refl

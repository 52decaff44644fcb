-- `bits::with` meets its contract: the number's bit is put into the set.
-- The shifted 1 is a power of two that fits, for p is below 64 (`shifted_one` of BitLaws).
use mathlib.Core.Path.{ap}
use lib.Bits.{bit_or}
use Rattle.bits.proofs.BitLaws.{shifted_one}
use Rattle.bits.proofs.with.Goals as goal

pub returns : goal.returns
returns c = ap (bit_or c.args.s) (shifted_one c.args.p c.requires)

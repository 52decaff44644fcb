-- `bits::lowest` meets its contract: the zeros below the lowest set bit are as many as its place.
-- By `trailing_lowest` of LowestLaws; the cast fits, for there are at most 64 such zeros.
use native.Mathlib.Omega.{arith}
use lib.Count.{trailing_le}
use Rattle.bits.proofs.LowestLaws.{trailing_lowest}
use Rattle.bits.proofs.lowest.Goals as goal

pub overflow_cast-result : goal.overflow_cast-result
overflow_cast-result c = omega (arith, trailing_le 64 c.args.s)

pub returns : goal.returns
returns c = trailing_lowest c.args.s c.requires c.ranges.s.fits

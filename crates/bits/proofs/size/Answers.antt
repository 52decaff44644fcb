-- `bits::size` meets its contract: the count of set bits is how many numbers are in the set.
-- By `size_count` of SizeLaws; the cast fits, for at most 64 bits are set.
use native.Mathlib.Omega.{arith}
use lib.Count.{ones-le}
use Rattle.bits.proofs.SizeLaws.{size_count}
use Rattle.bits.proofs.size.Goals as goal

pub overflow_cast-result : goal.overflow_cast-result
overflow_cast-result c = omega (arith, ones-le 64 c.args.s c.ranges.s.fits)

pub returns : goal.returns
returns c = size_count 64 c.args.s c.ranges.s.fits

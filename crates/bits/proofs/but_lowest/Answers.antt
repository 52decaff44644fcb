-- `bits::but_lowest` meets its contract: a set and itself less 1 share all numbers but the lowest.
-- By `and_but_lowest` of LowestLaws; 1 can be taken away, for the set is not empty.
use Rattle.bits.proofs.LowestLaws.{and_but_lowest}
use Rattle.bits.proofs.but_lowest.Goals as goal

pub returns : goal.returns
returns c = and_but_lowest c.args.s c.ranges.s.fits

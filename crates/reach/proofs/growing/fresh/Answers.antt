-- `reach::growing::fresh` meets its contract: it takes away the set of the points grown from.
-- The contract of `minus` says it.
use Rattle.reach.proofs.growing.fresh.Goals as goal

pub minus-requires : goal.minus-requires
minus-requires c = tt

pub returns : goal.returns
returns c = c.minus.ensures

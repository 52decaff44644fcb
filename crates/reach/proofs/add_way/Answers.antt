-- `reach::add_way` meets its contract: the word of p is stored with the bit of q.
-- The contract of `with` tells the word that is stored.
use mathlib.Core.Path.{ap}
use lib.ListN.{set}
use Rattle.reach.proofs.add_way.Goals as goal

pub returns : goal.returns
returns c = let a = c.args in ap (set a.ways.now a.p) c.with.ensures

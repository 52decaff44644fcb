-- `send_all` meets its contract: it stores the plan of the key's run, leaves the run's last position, and gives the search count.
-- The invariant: what is stored and the run from here make the whole run, and so for what is counted (laws of Sends). The measure is how many
-- carriers are out.
use lib.ListN.{length}
use Rattle.model.specs.Track.{track_in}
use Rattle.model.specs.Position.{outs}
use Rattle.search.proofs.Sends.{Underway}
use Rattle.search.proofs.send_all.Given as goal

abbrev pub invariant-rounds : goal.invariant-rounds
invariant-rounds l = Underway (track_in l.track) l.follows l.order l.initial.position l.initial.plan l.free l.position l.plan l.planned l.searched

abbrev pub decreases-rounds : goal.decreases-rounds
decreases-rounds l = length (outs l.position)

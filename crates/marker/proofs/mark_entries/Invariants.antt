-- `marker::mark_entries` meets its contract: it gives the number of the plan.
-- The invariant: the entries left, in the position as it is now, have the whole plan's number. The measure is how many words are left.
use lib.ListN.{length}
use Rattle.model.specs.Track.{track_in}
use Rattle.marker.proofs.PlanLaws.{Marking}
use Rattle.marker.proofs.mark_entries.Given as goal

abbrev pub invariant-loop-left : goal.invariant-loop-left
invariant-loop-left l = Marking (track_in l.track) l.initial.position l.entries l.position l.left

abbrev pub decreases-loop-left : goal.decreases-loop-left
decreases-loop-left l = length l.left

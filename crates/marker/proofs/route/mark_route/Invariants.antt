-- `marker::route::mark_route` meets its contract: it gives the number of the route.
-- The invariant: the words from place i on, after word w, have the whole route's number.
use Rattle.model.specs.Track.{track_in}
use Rattle.marker.proofs.RouteLaws.{Following}
use Rattle.marker.proofs.route.mark_route.Given as goal

abbrev pub invariant-loop-word : goal.invariant-loop-word
invariant-loop-word l = Following (track_in l.track) l.position l.carrier l.standing l.route l.w l.point l.word-index

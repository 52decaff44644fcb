-- `marker::route::mark_route` meets its contract: it gives the number of the route.
-- The invariant: the words from place i on, after word w, have the whole route's number.
use mathlib.Core.Bool.{not}
use mathlib.Core.Path.{ap}
use Rattle.marker.proofs.RouteLaws.{no_step, step_on, not_home, at_home}
use Rattle.marker.proofs.route.mark_route.Goals as goal

pub returns-then-not-may_step : goal.returns-then-not-may_step
returns-then-not-may_step c = no_step c.loop-word.invariant c.loop-word-test.true c.may_step.ensures (ap not c.if-not-may_step.true)

pub loop-word-preserved : goal.loop-word-preserved
loop-word-preserved c = step_on c.loop-word.invariant c.loop-word-test.true c.may_step.ensures (ap not c.if-not-may_step.false) c.leaving-point-in-loop-word.ensures

pub returns-then-point-track : goal.returns-then-point-track
returns-then-point-track c = not_home c.loop-word.invariant c.loop-word-test.false c.if-point-track.true

pub returns : goal.returns
returns c = at_home c.loop-word.invariant c.loop-word-test.false c.if-point-track.false

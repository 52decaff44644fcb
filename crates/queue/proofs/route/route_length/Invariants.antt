-- `route_length` gives the count of words that lead from place 0 to the place asked for.
-- The invariant: n - 1 words were passed, and the route is what leads to place j with them after it. The measure is j, which falls.
use Rattle.queue.specs.Queue.{froms_of}
use Rattle.queue.proofs.Routing.{CountingWords}
use Rattle.queue.proofs.route.route_length.Given as goal

abbrev pub invariant-loop-j : goal.invariant-loop-j
invariant-loop-j l = CountingWords (froms_of l.found) l.place l.n l.j

abbrev pub decreases-loop-j : goal.decreases-loop-j
decreases-loop-j l = l.j

-- `write_route` stores the words of the route, from the last to the first.
-- The invariant: the words after place j are stored from k on, and the route is what leads to j with them after it.
use Rattle.queue.specs.Queue.{words_of, froms_of}
use Rattle.queue.proofs.Routing.{StoringRoute}
use Rattle.queue.proofs.route.write_route.Given as goal

abbrev pub invariant-loop-k : goal.invariant-loop-k
invariant-loop-k l = StoringRoute (words_of l.found) (froms_of l.found) l.place l.initial.route l.route l.k l.j

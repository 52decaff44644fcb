-- `write_route` stores the words of the route, from the last to the first.
-- The invariant: the words after place j are stored from k on, and the route is what leads to j with them after it.
use native.Mathlib.Omega.{arith}
use Rattle.queue.proofs.InCode.{word_at, from_at}
use Rattle.queue.proofs.Routing.{storing_starts, storing_more}
use Rattle.queue.proofs.route.write_route.Goals as goal

pub loop-k-init : goal.loop-k-init
loop-k-init c = storing_starts _ _ _ _ c.requires.1

pub overflow_cast-route : goal.overflow_cast-route
overflow_cast-route c = rw (word_at c.args.found.now _) (record { fits = c.requires.0.small _ (omega (arith, (c.loop-k.invariant.back c.loop-k-test.true).low)) })

pub loop-k-preserved : goal.loop-k-preserved
loop-k-preserved c = rw (word_at c.args.found.now _, from_at c.args.found.now _) (storing_more c.loop-k.invariant c.loop-k-test.true c.requires.0.falling)

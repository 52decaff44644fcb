-- `route_length` gives the count of words that lead from place 0 to the place asked for.
-- The invariant: n - 1 words were passed, and the route is what leads to place j with them after it. The measure is j, which falls.
use native.Mathlib.Omega.{arith}
use Rattle.queue.proofs.InCode.{froms_length, from_at}
use Rattle.queue.proofs.Routing.{counting_starts, counting_more, counting_done}
use Rattle.queue.proofs.route.route_length.Goals as goal

pub loop-j-init : goal.loop-j-init
loop-j-init c = counting_starts _ _

pub overflow_add-n : goal.overflow_add-n
overflow_add-n c = omega (arith, c.loop-j.invariant.bound, c.requires.inside, froms_length c.args.found.now)

pub loop-j-preserved : goal.loop-j-preserved
loop-j-preserved c = rw (from_at c.args.found.now _) (counting_more c.requires c.loop-j.invariant c.loop-j-test.true)

pub loop-j-smaller : goal.loop-j-smaller
loop-j-smaller c = rw (from_at c.args.found.now _) (c.requires.falls _ c.loop-j-test.true c.loop-j.invariant.back.low)

pub returns : goal.returns
returns c = counting_done c.requires c.loop-j.invariant c.loop-j-test.false

-- `found_from` meets its contract: its array is as long as the list of its places, and has at each place the number that the list has there.
use native.Mathlib.Omega.{arith}
use Rattle.queue.proofs.InCode.{froms_length, from_at}
use Rattle.queue.proofs.Queue.found_from.Goals as goal

pub offset_bounds-self-place : goal.offset_bounds-self-place
offset_bounds-self-place g c = omega (arith, froms_length c.args.self.now.found)

pub bounds-self-place : goal.bounds-self-place
bounds-self-place g c = omega (arith, froms_length c.args.self.now.found)

pub returns : goal.returns
returns g c = from_at _ _

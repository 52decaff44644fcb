-- `replay::moves::carry_out_all` meets its contract: it gives the replay's answer.
-- The invariant: what is left of the log, from the position as it is now, has the whole replay's answer.
use native.Mathlib.Omega.{arith}
use Rattle.replay.proofs.Replaying.{stops, goes_on_lem, all_done}
use Rattle.replay.proofs.moves.carry_out_all.Goals as goal

pub loop-done-preserved : goal.loop-done-preserved
loop-done-preserved c =
    goes_on_lem c.loop-done.invariant (omega arith) c.carry_out-allowed.ensures c.if-stops.false

pub returns-then-stops : goal.returns-then-stops
returns-then-stops c =
    stops c.loop-done.invariant (omega arith) c.carry_out-allowed.ensures c.if-stops.true

pub returns : goal.returns
returns c = all_done c.loop-done.invariant (omega arith)

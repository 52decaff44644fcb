-- `replay::moves::carry_out_all` meets its contract: it gives the replay's answer.
-- The invariant: what is left of the log, from the position as it is now, has the whole replay's answer.
use Rattle.model.specs.Track.{track_in}
use Rattle.replay.proofs.Replaying.{Replaying}
use Rattle.replay.proofs.moves.carry_out_all.Given as goal

abbrev pub invariant-loop-done : goal.invariant-loop-done
invariant-loop-done l = Replaying (track_in l.track) l.initial.position l.log l.position l.done

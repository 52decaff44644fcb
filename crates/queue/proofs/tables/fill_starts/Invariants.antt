-- `fill_starts` puts each word into the row of the point where it starts.
-- The invariant: the words below w are in their rows, and no others.
use Rattle.queue.specs.Follows.{Starts}
use Rattle.queue.proofs.tables.fill_starts.Given as goal

abbrev pub invariant-loop-w : goal.invariant-loop-w
invariant-loop-w l = Starts l.w l.track.ends.now l.starts

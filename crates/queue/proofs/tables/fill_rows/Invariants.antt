-- `fill_rows` fills the row of each word with the words that come after it.
-- The invariant: the rows of the words below w are filled.
use Rattle.queue.specs.Follows.{Follows}
use Rattle.queue.proofs.tables.fill_rows.Given as goal

abbrev pub invariant-loop-w : goal.invariant-loop-w
invariant-loop-w l = Follows l.track.head.zones l.w l.track.ends.now l.follows

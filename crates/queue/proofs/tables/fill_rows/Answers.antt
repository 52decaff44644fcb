-- `fill_rows` fills the row of each word with the words that come after it.
-- The invariant: the rows of the words below w are filled.
use Rattle.queue.proofs.FollowLaws.{follows_more}
use Rattle.queue.proofs.tables.fill_rows.Goals as goal

pub loop-w-preserved : goal.loop-w-preserved
loop-w-preserved c = follows_more c.requires.0 c.requires.1 c.loop-w-test.true c.leaving.ensures c.loop-w.invariant c.fill_row.ensures

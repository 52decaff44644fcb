-- `fill_starts` puts each word into the row of the point where it starts.
-- The invariant: the words below w are in their rows, and no others.
use Rattle.queue.proofs.FollowLaws.{starts_none}
use Rattle.queue.proofs.tables.fill_starts.Goals as goal

pub loop-w-init : goal.loop-w-init
loop-w-init c = starts_none _ _ c.requires.1

-- `add` meets its contract: the word is in the set, and no other word is put in or taken out.
-- The contract of `with` tells the block that is stored; the law of one word more of WordSetLaws.
use Rattle.queue.proofs.WordSetLaws.{word_added}
use Rattle.queue.proofs.sets.add.Goals as goal

pub returns : goal.returns
returns c = word_added _ _ _ c.requires c.with.ensures

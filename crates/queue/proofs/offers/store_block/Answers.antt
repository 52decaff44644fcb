-- `store_block` stores the words of a block at the queue's end, each found from place i.
-- The invariant: with the words of `rest` stored from the queue's end on, the lists are as they will be. The measure is the count of bits of `rest`.
use native.Mathlib.Omega.{arith}
use Rattle.std.proofs.Common.{rules}
use Rattle.queue.proofs.InCode.{words_length}
use Rattle.queue.proofs.BlockLaws.{block_room, block_more, block_fewer, block_done}
use Rattle.queue.proofs.offers.store_block.Goals as goal

pub put-requires : goal.put-requires
put-requires g c = (search rules, (block_room c.requires.1 c.loop-rest.invariant c.lowest.ensures).0)

pub overflow_add-count : goal.overflow_add-count
overflow_add-count g c = omega (arith, (block_room c.requires.1 c.loop-rest.invariant c.lowest.ensures).0, c.loop-rest.invariant.filling.words_same, words_length c.args.queue.now.found)

pub loop-rest-smaller : goal.loop-rest-smaller
loop-rest-smaller g c = let low = c.lowest.ensures in rw (c.but_lowest-rest.ensures.rest c.lowest.result low) (block_fewer c.requires.1 c.loop-rest.invariant low)

pub loop-rest-preserved : goal.loop-rest-preserved
loop-rest-preserved g c =
    let low = c.lowest.ensures in
    rw (c.put.ensures.words, c.put.ensures.froms, c.but_lowest-rest.ensures.rest c.lowest.result low)
    (block_more c.requires.1 c.loop-rest.invariant low)

-- the lists of a queue don't turn on its count
pub returns : goal.returns
returns g c = block_done c.requires.1 c.loop-rest.invariant c.loop-rest-test.false

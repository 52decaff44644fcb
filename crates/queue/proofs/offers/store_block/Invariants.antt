-- `store_block` stores the words of a block at the queue's end, each found from place i.
-- The invariant: with the words of `rest` stored from the queue's end on, the lists are as they will be. The measure is the count of bits of `rest`.
use lib.Count.{ones}
use Rattle.queue.specs.Queue.{words_in, froms_in}
use Rattle.queue.proofs.BlockLaws.{StoringBlock}
use Rattle.queue.proofs.offers.store_block.Given as goal

abbrev pub invariant-loop-rest : goal.invariant-loop-rest
invariant-loop-rest g l =
    StoringBlock l.first l.block l.i l.initial.queue.count (words_in l.initial.queue) (froms_in l.initial.queue) (words_in l.queue) (froms_in l.queue) l.count l.rest

abbrev pub decreases-loop-rest : goal.decreases-loop-rest
decreases-loop-rest g l = ones l.rest

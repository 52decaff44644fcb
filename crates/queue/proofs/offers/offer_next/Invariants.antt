-- `offer_next` offers the words that come after `last`: the enterable ones are at the queue's end and are enterable no more.
-- The invariant: with the words of block k on stored from the queue's end on, the lists are as they will be, and below block k the set is done.
use Rattle.queue.specs.Queue.{words_in, froms_in}
use Rattle.queue.proofs.OfferBlocks.{OfferingBlocks}
use Rattle.queue.proofs.offers.offer_next.Given as goal

abbrev pub invariant-loop-k : goal.invariant-loop-k
invariant-loop-k g l =
    OfferingBlocks l.follows l.last l.i l.initial.queue.count (words_in l.initial.queue) (froms_in l.initial.queue) l.initial.enterable
    (words_in l.queue) (froms_in l.queue) l.enterable l.queue.count l.k

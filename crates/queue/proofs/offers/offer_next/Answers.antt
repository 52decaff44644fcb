-- `offer_next` offers the words that come after `last`: the enterable ones are at the queue's end and are enterable no more.
-- The invariant: with the words of block k on stored from the queue's end on, the lists are as they will be, and below block k the set is done.
use Prim.Native.Nat.{◌+◌, ◌*◌}
use native.Mathlib.Omega.{arith}
use Rattle.std.proofs.Common.{rules}
use Rattle.queue.proofs.OfferBlocks.{going_starts, going_room, going_more, going_done}
use Rattle.queue.proofs.offers.offer_next.Goals as goal

pub loop-k-init : goal.loop-k-init
loop-k-init g c = going_starts _ _ _ _ _ _ _ c.requires.blocks

pub store_block-requires : goal.store_block-requires
store_block-requires g c = (search rules, (omega (arith, c.loop-k-test.true), going_room c.requires c.loop-k.invariant c.loop-k-test.true))

pub loop-k-preserved : goal.loop-k-preserved
loop-k-preserved g c =
    rw c.minus.ensures
    (going_more c.requires c.loop-k.invariant c.loop-k-test.true
    (c.type_inv.follows (3 * c.args.last + c.loop-k.k)).fits
    (omega arith)
    c.store_block.ensures)

pub returns : goal.returns
returns g c = going_done c.requires c.loop-k.invariant c.loop-k-test.false

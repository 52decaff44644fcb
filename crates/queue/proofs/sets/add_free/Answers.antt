-- `add_free` fills the set with the words of the free zones.
-- The invariant: the words of the free zones below z are in the set, and no others.
use Rattle.queue.proofs.WordSetLaws.{free_starts, free_more, free_past}
use Rattle.queue.proofs.sets.add_free.Goals as goal
use Rattle.queue.proofs.sets.add_free.Goals.{then-free, else-free}

pub loop-z-init : goal.loop-z-init
loop-z-init c = free_starts _ _ c.requires

pub loop-z-preserved : goal.loop-z-preserved
loop-z-preserved c =
    let inside = c.loop-z-test.true in
    elim c.if-free.branch [
      | then-free w ↦ rw w.set-is (free_more c.loop-z.invariant inside w.if-free.true w.add_zone.auto.set w.add_zone.ensures)
      | else-free w ↦ rw w.set-is (free_past c.loop-z.invariant inside w.if-free.false)
    ]

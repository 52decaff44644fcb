-- `fill_row` meets its contract: the row of w has the words of the point's row but for those of the zone of w, and no other row changes.
-- The contracts of `with` and `minus` tell the block that is stored last; the law of one row filled of FollowLaws.
use Rattle.queue.proofs.FollowLaws.{row_copied, row_filled}
use Rattle.queue.proofs.tables.fill_row.Goals as goal

pub returns : goal.returns
returns c =
    row_filled (row_copied _ _ _ _ c.requires.0 c.requires.2 c.copy_from_slice.ensures.after) c.requires.2 c.requires.1 (λ i. (c.type_inv.starts i).fits)
    c.with-own.type_inv c.with.ensures c.with-own.ensures c.minus.ensures

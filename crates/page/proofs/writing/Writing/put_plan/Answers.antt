-- `Writing::put_plan` meets its contract: the line of each entry of the plan is put.
-- The invariant: the words left are those of the entries whose lines are left to write (PlanPut).
-- The measure is how many words are left.
use Rattle.page.proofs.PlanPut.{planning_ends, entry_inside, entry_room, planning_again}
use Rattle.page.proofs.writing.Writing.put_plan.Goals as goal

pub split_at-requires : goal.split_at-requires
split_at-requires c = entry_inside c.loop-left.invariant c.in-len2-up.len_at_least

pub put_entry-requires : goal.put_entry-requires
put_entry-requires c = entry_room c.loop-left.invariant c.in-len2-up.len_at_least c.split_at.ensures.front

pub loop-left-preserved : goal.loop-left-preserved
loop-left-preserved c =
    planning_again c.loop-left.invariant c.in-len2-up.len_at_least c.split_at.ensures.front c.split_at.ensures.back c.put_entry.ensures

pub returns : goal.returns
returns c = planning_ends c.loop-left.invariant c.in_default.len_below

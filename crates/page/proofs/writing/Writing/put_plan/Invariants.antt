-- `Writing::put_plan` meets its contract: the line of each entry of the plan is put.
-- The invariant: the words left are those of the entries whose lines are left to write (PlanPut).
-- The measure is how many words are left.
use Rattle.std.proofs.Common.{length}
use Rattle.page.proofs.PlanPut.{Planning}
use Rattle.page.proofs.writing.Writing.put_plan.Given as goal

abbrev pub invariant-loop-left : goal.invariant-loop-left
invariant-loop-left l = Planning l.plan l.initial.self l.left l.self

abbrev pub decreases-loop-left : goal.decreases-loop-left
decreases-loop-left l = length l.left

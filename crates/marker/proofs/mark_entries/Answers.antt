-- `marker::mark_entries` meets its contract: it gives the number of the plan.
-- The invariant: the entries left, in the position as it is now, have the whole plan's number. The measure is how many words are left.
use Prim.Native.Nat.{◌<◌}
use mathlib.Core.Path.{sym, ◌∙◌}
use native.Mathlib.Omega.{arith}
use lib.ListN.{length}
use borrow.Author.Tests.{eqb-true, eqb-false}
use Rattle.std.proofs.lemmas.Result.{err_from_is_err_and}
use Rattle.marker.proofs.PlanLaws.{entries_end, entry_stops, entry_passes}
use Rattle.marker.proofs.mark_entries.Goals.{In-loop-left}
use Rattle.marker.proofs.mark_entries.Goals as goal

some_left : (c : In-loop-left) → 0 < length c.loop-left.left.now
some_left c = let n = eqb-false (length c.loop-left.left.now) 0 (sym c.is_empty.ensures ∙ c.loop-left-test.true) in omega arith

pub returns-in_err-left : goal.returns-in_err-left
returns-in_err-left c =
    let p = err_from_is_err_and c.from_residual.result c.from_residual.ensures.1 in
    rw (p.1, p.2) (entry_stops c.loop-left.invariant (some_left (goal.at.returns-in_err-left c).In-loop-left) c.in_err-left.ensures)

pub loop-left-preserved : goal.loop-left-preserved
loop-left-preserved c = entry_passes c.loop-left.invariant (some_left (goal.at.loop-left-preserved c).In-loop-left) c.in_ok-left.ensures

pub returns : goal.returns
returns c = entries_end c.loop-left.invariant (eqb-true _ _ (sym c.is_empty.ensures ∙ c.loop-left-test.false)) c.mark_end.ensures

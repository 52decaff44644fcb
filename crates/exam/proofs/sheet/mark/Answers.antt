-- `sheet::mark` meets its contract: by the sheet's first word the plan is marked, or the claim, or neither.
-- From the contracts of `mark_entries` and `mark_claim`; each return is a law of MarkLaws, by the arm that led to it.
use Rattle.std.proofs.Common.{◌≡◌, arith, get_or}
use Rattle.exam.proofs.MarkLaws.{words_after, mark_empty, mark_plan, mark_claim_lem, mark_other}
use Rattle.exam.proofs.sheet.mark.Goals as goal

pub returns-in-0 : goal.returns-in-0
returns-in-0 c =
    let kind : get_or c.args.sheet.now 0 0 ≡ 0 = omega arith in
    mark_plan _ _ _ (omega arith) kind (rw (words_after c.args.sheet.now (omega arith)) at c.mark_entries.ensures)

pub returns-in-1 : goal.returns-in-1
returns-in-1 c =
    let kind : get_or c.args.sheet.now 0 0 ≡ 1 = omega arith in
    mark_claim_lem _ _ _ (omega arith) kind (rw (words_after c.args.sheet.now (omega arith)) at c.mark_claim.ensures)

pub returns-in_default : goal.returns-in_default
returns-in_default c = mark_empty _ _ _ (omega arith)

pub returns-in_default-2 : goal.returns-in_default-2
returns-in_default-2 c = mark_other _ _ _ (omega arith) (λ kind. omega arith) (λ kind. omega arith)

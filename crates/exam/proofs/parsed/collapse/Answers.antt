-- `parsed::collapse` meets its contract: 11 where the list is short, else what is left is listed.
-- From the contracts of `count_out` and `list_left`; the refusal is a law of CollapseLaws.
use Rattle.std.proofs.Common.{arith, refl}
use Rattle.exam.proofs.CollapseLaws.{collapse_refused}
use Rattle.exam.proofs.parsed.collapse.Goals as goal

pub returns-then-list-out : goal.returns-then-list-out
returns-then-list-out c = record { collapse_given = collapse_refused _ _ _ (omega (arith, c.count_out-out.ensures)); position_after = refl }

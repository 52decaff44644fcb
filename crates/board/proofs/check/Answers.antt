-- `check` gives the first row that holds.
-- Each part of it is tried where the parts before it gave nothing, and what they leave is what it asks for.
use Rattle.board.proofs.Order.{rows_1_5, rows_6_7, rows_8_9, whole_head, none_1_5, no_bad_zone}
use Rattle.board.proofs.Together.{inside}
use Rattle.board.proofs.GivenLaws.{number_positive}
use Rattle.std.proofs.lemmas.Result.{err_from_is_err_and}
use Rattle.board.proofs.check.Goals as goal

pub returns-in_err-check : goal.returns-in_err-check
returns-in_err-check c = let p = err_from_is_err_and c.from_residual.result c.from_residual.ensures.1 in rw (p.1, p.2) (rows_1_5 _ c.in_err-check.ensures (number_positive _))

pub check-requires-2 : goal.check-requires-2
check-requires-2 c = whole_head _ c.in_ok-check.ensures

pub returns-in_err-check-2 : goal.returns-in_err-check-2
returns-in_err-check-2 c = let p = err_from_is_err_and c.from_residual-in_err-check-2.result c.from_residual-in_err-check-2.ensures.1 in rw (p.1, p.2) (rows_6_7 _ c.in_ok-check.ensures c.in_err-check-2.ensures (number_positive _))

pub check-requires-3 : goal.check-requires-3
check-requires-3 c = (whole_head _ c.in_ok-check.ensures, inside _ (none_1_5 _ c.in_ok-check.ensures).1 (no_bad_zone _ c.in_ok-check-2.ensures))

pub returns : goal.returns
returns c = rows_8_9 _ c.in_ok-check.ensures c.in_ok-check-2.ensures c.check-3.ensures

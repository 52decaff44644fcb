-- `read` gives what the definition gives.
-- On a refusal by its number.
use Rattle.std.proofs.lemmas.Result.{err_from_is_err_and}
use Rattle.board.proofs.GivenLaws.{refused_is}
use Rattle.board.proofs.ReadBoard.{number_read}
use Rattle.board.proofs.read.Goals as goal

pub returns-in_err-head : goal.returns-in_err-head
returns-in_err-head c =
    let p = err_from_is_err_and c.from_residual.result c.from_residual.ensures.1 in
    rw (p.1, p.2) (refused_is _ _ (number_read _ c.in_err-head.ensures))

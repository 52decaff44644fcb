-- `read_into` gives what the definition gives.
-- On a refusal that is the arrays as they were lent beside the number; else the bytes of the head and the two filled arrays.
use Rattle.board.proofs.GivenLaws.{refused_is, said_is}
use Rattle.std.proofs.lemmas.Result.{err_from_is_err_and}
use Rattle.board.specs.Given.{board_refused}
use Rattle.board.proofs.read_into.Goals as goal

pub returns-in_err-check : goal.returns-in_err-check
unfolding board_refused
returns-in_err-check c =
    let p = err_from_is_err_and c.from_residual.result c.from_residual.ensures.1 in
    rw (p.1, p.2, c.requires.0, c.requires.1) (refused_is _ _ c.in_err-check.ensures)

pub returns : goal.returns
returns c =
    said_is _ c.in_ok-check.ensures c.byte.ensures c.byte-2.ensures c.byte-3.ensures c.arrays.ensures.ends_after c.arrays.ensures.position_after

-- `nizkabel_write` keeps the write's promise, with the count of bytes in `out`.
-- The promise is that of `writer::write`, and the count, 486 at most, fits.
use Rattle.std.proofs.Common.{arith, length}
use Rattle.faircopy.proofs.WriteMet.{written_most}
use Rattle.nizkabel.proofs.nizkabel_write.Goals as goal

pub overflow_cast-count : goal.overflow_cast-count
overflow_cast-count c =
    let s = c.args in
    record { fits = omega (arith, c.in-Ok.ensures.given.count_is, written_most s.board.now s.sheet.now (length s.copy.now)) }

-- `nizkabel_collapse` keeps the collapse's promise, with the count in `out`.
-- The promise is that of `exam::collapse`; the count fits 32 bits, for at most 96 carriers are left (`few_left` of Lengths).
use Rattle.std.proofs.Common.{arith, length}
use Rattle.model.specs.Reading.{Bytes}
use Rattle.nizkabel.proofs.Lengths.{few_left}
use Rattle.nizkabel.proofs.nizkabel_collapse.Goals as goal

pub overflow_cast-listed : goal.overflow_cast-listed
overflow_cast-listed c =
    let bytes : Bytes c.args.board.now = λ i. (c.type_inv.board i).fits in
    omega (arith, c.in-Ok.ensures.given.listed_is, few_left c.args.board.now bytes (length c.args.list.now))

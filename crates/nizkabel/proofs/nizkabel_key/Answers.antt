-- `nizkabel_key` keeps the key's promise, with the two lengths in `out`.
-- The promise is that of `exam::key`; the lengths fit 32 bits, being at most 18,624 words and 96 carriers (laws of Lengths).
use Rattle.std.proofs.Common.{arith, length}
use Rattle.model.specs.Reading.{Bytes}
use Rattle.nizkabel.proofs.Lengths.{few_words, few_blocked}
use Rattle.nizkabel.proofs.nizkabel_key.Goals as goal

pub overflow_cast-planned : goal.overflow_cast-planned
overflow_cast-planned c =
    let bytes : Bytes c.args.board.now = λ i. (c.type_inv.board i).fits in
    omega (arith, c.in-Ok.ensures.key_promise.given.planned_is, few_words c.args.board.now bytes (length c.args.plan.now) (length c.args.list.now))

pub overflow_cast-listed : goal.overflow_cast-listed
overflow_cast-listed c =
    let bytes : Bytes c.args.board.now = λ i. (c.type_inv.board i).fits in
    omega (arith, c.in-Ok.ensures.key_promise.given.listed_is, few_blocked c.args.board.now bytes (length c.args.plan.now) (length c.args.list.now))

-- `Writing::put_list` meets its contract: one text for no carrier, and else each carrier after a space.
-- The test of the length tells which text is asked for (PagePut); it is put by the contract of `put_text` or of `put_carriers`.
use Rattle.std.proofs.Common.{arith}
use Rattle.std.proofs.lemmas.Bool.Decides.{nat_tests}
use Rattle.page.proofs.PagePut.{blocked_none, blocked_some}
use Rattle.page.proofs.writing.Writing.put_list.Goals as goal

pub put_text-requires : goal.put_text-requires
put_text-requires c = rw (blocked_none c.args.list.now (grind (arith, nat_tests))) at c.requires

pub put_carriers-requires : goal.put_carriers-requires
put_carriers-requires c = rw (blocked_some c.args.list.now (λ e. grind (arith, nat_tests))) at c.requires

pub returns-then-none : goal.returns-then-none
returns-then-none c = rw (blocked_none c.args.list.now (grind (arith, nat_tests))) c.put_text.ensures

pub returns-else-none : goal.returns-else-none
returns-else-none c = rw (blocked_some c.args.list.now (λ e. grind (arith, nat_tests))) c.put_carriers.ensures

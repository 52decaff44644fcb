-- `print_key` meets its contract: each call says what it read or wrote where it gave `Ok` (`page_appended`).
use Rattle.std.proofs.Common.{arith, sym}
use Rattle.key.proofs.Printing.{page_appended}
use Rattle.key.proofs.print_key.Goals as goal

pub returns : goal.returns
returns g c =
    page_appended (g.R.Read.remaining c.args.input) (g.W.Write.contents c.args.output.now) _ (omega arith) c.key_text.ensures.text c.unwrap-length.ensures
    (rw (c.in_ok-context.ensures, c.take.ensures.limit, c.take.ensures.inner, c.new-board.ensures.items, sym c.deref.ensures.value) at c.read_to_end.ensures.bytes)
    (rw c.in_ok-context-2.ensures at c.write_all.ensures.bytes)

-- `key_text` keeps its promise: nothing where fewer than PAGE bytes are lent, else the page of the bytes.
-- Each return is a law of Pages, by the test that led to it and the contracts of `write_too_long` and `key_page`.
use Rattle.model.specs.Reading.{Bytes}
use Rattle.text.proofs.Pages.{too_few_lent, too_long_begun, text_written}
use Rattle.text.proofs.key_text.Goals as goal

pub returns-then-short-clause-text : goal.returns-then-short-clause-text
returns-then-short-clause-text c =
    let bytes : Bytes c.args.bytes.now = λ i. (c.type_inv.bytes i).fits in
    too_few_lent _ bytes _ c.if-short.true

pub returns-then-bytes-gt486-clause-text : goal.returns-then-bytes-gt486-clause-text
returns-then-bytes-gt486-clause-text c =
    let bytes : Bytes c.args.bytes.now = λ i. (c.type_inv.bytes i).fits in
    text_written _ bytes c.if-short.false (too_long_begun _ c.if-bytes-gt486.true c.write_too_long.ensures)

pub returns-clause-text : goal.returns-clause-text
returns-clause-text c =
    let bytes : Bytes c.args.bytes.now = λ i. (c.type_inv.bytes i).fits in
    text_written _ bytes c.if-short.false c.key_page.ensures

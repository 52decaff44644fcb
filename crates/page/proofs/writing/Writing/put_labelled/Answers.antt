-- `Writing::put_labelled` meets its contract: the text is put, and then the number.
-- From the contracts of `put_text` and `put_decimal`: after the text the number is left to write, with room for it (PutLaws).
use mathlib.Core.List.{[], ◌∷◌}
use Rattle.page.specs.Page.{decimal}
use Rattle.page.proofs.PutLaws.{starts, ◌then◌, ends}
use Rattle.page.proofs.writing.Writing.put_labelled.Goals as goal

pub returns : goal.returns
returns c =
    let a = c.args in
    ends (starts (a.label.now ∷ decimal a.n ∷ []) c.requires then c.put_text.ensures then c.put_decimal.ensures)

-- `collapse` keeps its promise: a refused board is turned back, and on any other the inner collapse answers on what was read.
-- From the contracts of `on_board` and `parsed::collapse`: either is a law of CollapsePromised.
use Rattle.std.proofs.Common.{rules}
use Rattle.std.proofs.lemmas.Bool.{cases_eq}
use mathlib.Core.Logic.{⊎_elim}
use Rattle.model.specs.Reading.{refusal}
use Rattle.exam.proofs.CollapsePromised.{collapse_turned_back, collapse_promised}
use Rattle.exam.proofs.collapse.Goals as goal

pub returns : goal.returns
returns c =
    ⊎_elim
    (λ z. let d = c.on_board.ensures.done z in let m = d.4.met in collapse_promised d.3 (search rules))
    (λ n. let r = c.on_board.ensures.refused n in search (rules, collapse_turned_back))
    (cases_eq (refusal c.args.bytes.now) 0)

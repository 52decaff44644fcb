-- `mark` keeps its promise: a refused board gives its number, and on any other the inner marker answers on what was read.
-- From the contracts of `on_board` and `sheet::mark`: either is a law of MarkPromised.
use Rattle.std.proofs.Common.{rules}
use Rattle.std.proofs.lemmas.Bool.{cases_eq}
use mathlib.Core.Logic.{⊎_elim}
use Rattle.model.specs.Reading.{refusal}
use Rattle.exam.proofs.MarkPromised.{mark_turned_back, mark_promised}
use Rattle.exam.proofs.mark.Goals as goal

pub returns : goal.returns
returns c =
    ⊎_elim
    (λ z. let d = c.on_board.ensures.done z in let m = d.4.met in mark_promised d.3 (search rules))
    (λ n. let r = c.on_board.ensures.refused n in search (rules, mark_turned_back))
    (cases_eq (refusal c.args.bytes.now) 0)

-- `key` keeps its promise: a refused board is turned back, and on any other the inner key answers on what was read.
-- From the contracts of `on_board` and `parsed::key`: either is a law of KeyPromised.
use Rattle.std.proofs.Common.{rules}
use Rattle.std.proofs.lemmas.Bool.{cases_eq}
use mathlib.Core.Logic.{⊎_elim}
use Rattle.model.specs.Reading.{refusal}
use Rattle.exam.specs.Answers.{key_numbers}
use Rattle.exam.proofs.KeyPromised.{key_turned_back, key_promised, summary_turned_back, summary_promised}
use Rattle.exam.proofs.key.Goals as goal

pub returns : goal.returns
returns c =
    ⊎_elim
    (λ z.
    let d = c.on_board.ensures.done z in
    let m = d.4.met in
    record {
      key_promise = key_promised d.3 (search rules) (search rules);
      summary_value = summary_promised d.3 (key_numbers c.on_board.result).verdict (search rules);
    })
    (λ n. let r = c.on_board.ensures.refused n in record { key_promise = search (rules, key_turned_back); summary_value = search (rules, summary_turned_back) })
    (cases_eq (refusal c.args.bytes.now) 0)

-- `writer::write` keeps its promise: a refused board gives its number, and on any other the inner write answers on the track that was read.
-- From the contracts of `on_board` and `parsed::write`: either is a law of WritePromised.
use Rattle.std.proofs.Common.{rules}
use Rattle.std.proofs.lemmas.Bool.{cases_eq}
use mathlib.Core.Logic.{⊎_elim}
use Rattle.model.specs.Reading.{refusal}
use Rattle.writer.proofs.WritePromised.{write_turned_back, board_track, write_read}
use Rattle.writer.proofs.write.Goals as goal

pub on_board-requires : goal.on_board-requires
on_board-requires c = search (rules, board_track)

pub returns : goal.returns
returns c =
    ⊎_elim
    (λ z. let d = c.on_board.ensures.done z in let m = d.4.met in write_read d.3 (λ i. (c.type_inv.bytes i).fits) _ _ (search rules))
    (λ n. let r = c.on_board.ensures.refused n in write_turned_back (λ i. (c.type_inv.bytes i).fits) n (search rules) (search rules) (search rules))
    (cases_eq (refusal c.args.bytes.now) 0)

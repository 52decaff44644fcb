-- `on_board` does the work on what the bytes say, and on a refusal gives it and does nothing.
-- From the contract of `read_into`: what was read is inside the arrays and ready, so the work may be done on it.
use Rattle.std.proofs.Common.{arith, refl, sym, ◌∙◌}
use Rattle.std.proofs.lemmas.Result.{err_from_is_err_and}
use lib.Seq.{length-take-le}
use Rattle.board.proofs.GivenLaws.{number_positive}
use Rattle.board.proofs.ReadBoard.{said, words_in, zones_in, on_board_read, number_read}
use Rattle.board.proofs.on_board.Goals as goal

pub returns-in_err-head-clause-refused : goal.returns-in_err-head-clause-refused
returns-in_err-head-clause-refused g c _ =
    let p = err_from_is_err_and c.from_residual.result c.from_residual.ensures.1 in
    (c.in_err-head.field-0.0, p.0, number_read _ c.in_err-head.ensures, p.2, p.1, refl)

pub returns-in_err-head-clause-done : goal.returns-in_err-head-clause-done
returns-in_err-head-clause-done g c e = absurd (number_positive c.in_err-head.field-0.0 (number_read _ c.in_err-head.ensures ∙ e))

pub overflow_mul-ends : goal.overflow_mul-ends
overflow_mul-ends g c = omega (arith, (said c.in_ok-head.ensures refl).few_zones)

pub slice_bounds-ends-end : goal.slice_bounds-ends-end
slice_bounds-ends-end g c = words_in (said c.in_ok-head.ensures refl)

pub slice_bounds-track-end : goal.slice_bounds-track-end
slice_bounds-track-end g c = sym (length-take-le _ _ (words_in (said c.in_ok-head.ensures refl)))

pub slice_bounds-position-end : goal.slice_bounds-position-end
slice_bounds-position-end g c = zones_in (said c.in_ok-head.ensures refl)

pub slice_bounds-work-end : goal.slice_bounds-work-end
slice_bounds-work-end g c = sym (length-take-le _ _ (zones_in (said c.in_ok-head.ensures refl)))

pub work-requires : goal.work-requires
work-requires g c = c.requires _ _ (on_board_read (said c.in_ok-head.ensures refl) (λ i. (c.type_inv.bytes i).fits))

pub returns-clause-refused : goal.returns-clause-refused
returns-clause-refused g c n = absurd (n (said c.in_ok-head.ensures refl).accepted)

pub returns-clause-done : goal.returns-clause-done
returns-clause-done g c none = (_, _, _, on_board_read (said c.in_ok-head.ensures refl) (λ i. (c.type_inv.bytes i).fits), c.work.ensures)

-- `writer::store::test_and_store` meets its contract: the copy's own rows are tested, and it is stored where none of them holds.
-- What was drafted is the copy, by the contract of `draft::board`; the rest are laws of Writing.
use Prim.Native.Nat.{◌≤◌}
use mathlib.Core.Path.{◌≡◌, sym, ◌∙◌, ap, subst}
use native.Mathlib.Omega.{arith}
use Rattle.std.proofs.Common.{rules}
use Rattle.std.proofs.lemmas.Result.{err_from_is_err_and}
use lib.ListN.{length, take, replicate}
use lib.Seq.{length-take-le}
use Rattle.model.specs.Track.{track_in}
use Rattle.board.proofs.GivenLaws.{number_positive}
use Rattle.model.specs.Reading.{Whole, zone_refusal}
use Rattle.faircopy.specs.BoardBytes.{copy_bytes}
use Rattle.writer.proofs.Drafting.{few_bytes}
use Rattle.writer.proofs.Writing.{copy_count, copy_taken, whole_copy, copy_refused, copy_stored, copied_whole}
use Rattle.writer.proofs.store.test_and_store.Goals.{After-board}
use Rattle.writer.proofs.store.test_and_store.Goals as goal

-- what was drafted, as far as the copy goes
draft_is : (b : After-board) → take b.zone_from-count.result b.board.new.draft ≡ copy_bytes (track_in b.args.contents.now.track) b.args.contents.now.sheet.now
draft_is b = copy_taken _ _ (replicate 486 0) b.requires.version b.zone_from-count.ensures b.board.ensures

-- the copy is inside the array
inside : (b : After-board) → b.zone_from-count.result ≤ length b.board.new.draft
inside b = omega (arith, b.board.auto.draft, b.zone_from-count.ensures, few_bytes b.args.contents.now.wide b.args.contents.now.draftable.zones_most)

pub board-requires : goal.board-requires
board-requires c =
    omega (arith, few_bytes c.args.contents.now.wide c.args.contents.now.draftable.zones_most)

pub slice_bounds-draft-end : goal.slice_bounds-draft-end
slice_bounds-draft-end c = inside (goal.at.slice_bounds-draft-end c).After-board

pub slice_bounds-check-end : goal.slice_bounds-check-end
slice_bounds-check-end c = sym (length-take-le _ _ (inside (goal.at.slice_bounds-check-end c).After-board))

pub check-tested-requires : goal.check-tested-requires
check-tested-requires c = subst Whole (sym (draft_is (goal.at.check-tested-requires c).After-board)) (whole_copy _ _)

pub returns-in_err-tested : goal.returns-in_err-tested
returns-in_err-tested c =
    let p = err_from_is_err_and c.from_residual.result c.from_residual.ensures.1 in
    rw (p.1, p.2) (copy_refused _ _ c.requires.track c.args.copy.now (search rules ∙ ap zone_refusal (draft_is (goal.at.returns-in_err-tested c).After-board)) (number_positive _))

pub returns : goal.returns
returns c =
    let counted = copy_count _ _ c.requires.version c.zone_from-count.ensures in
    copy_stored _ _ c.requires.track c.args.copy.now (c.check-tested.ensures ∙ ap zone_refusal (draft_is (goal.at.returns c).After-board)) (search rules) counted
    (copied_whole c.args.copy.now (draft_is (goal.at.returns c).After-board) c.from_start.ensures)

pub slice_bounds-draft-end-2 : goal.slice_bounds-draft-end-2
slice_bounds-draft-end-2 c = inside (goal.at.slice_bounds-draft-end-2 c).After-board

pub slice_bounds-from_start-end : goal.slice_bounds-from_start-end
slice_bounds-from_start-end c = sym (length-take-le _ _ (inside (goal.at.slice_bounds-from_start-end c).After-board))

pub from_start-requires : goal.from_start-requires
from_start-requires c = omega (arith, ap length (draft_is (goal.at.from_start-requires c).After-board), c.requires.room)

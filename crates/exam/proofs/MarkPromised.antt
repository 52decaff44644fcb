-- How the marker of a board in bytes keeps its promise: on a refusal it gives the refusal's number, and otherwise the inner marker's.
-- By the definition's test of the refusal, and what the reader hands on; that 0 means a right sheet is the theorem `marked_right`.
use Prim.Native.Nat.{ℕ}
use mathlib.Core.List.{List}
use mathlib.Core.Path.{◌≡◌, sym, ◌∙◌, subst, subst₂}
use mathlib.Core.Logic.{◌↔◌}
use Rattle.model.specs.Track.{Track}
use Rattle.model.specs.Position.{Position}
use Rattle.model.specs.Reading.{refusal, track_said, position_said}
use Rattle.rules.specs.Sheet.{Right, mark_for, mark_of, mark_of_by}
use Rattle.marking.proofs.SheetMarked.{marked_right}
use Rattle.model.specs.Accepted.{Ready}
use Rattle.board.specs.OnBoard.{OnBoard}
use Rattle.exam.specs.Operations.{MarkPromise}
use Rattle.model.proofs.ReadingLaws.{if_accepted, if_refused}

module _ (b sheet : List ℕ) where
  mark_refused_board : (refusal b ≡ 0 → ⊥) → mark_of b sheet ≡ refusal b
  unfolding mark_of_by
  mark_refused_board = if_refused b _ _

  mark_read_board : refusal b ≡ 0 → mark_of b sheet ≡ mark_for (track_said b) (position_said b) sheet
  unfolding mark_of_by
  mark_read_board = if_accepted b _ _

  pub mark_turned_back : {number : ℕ} → (refusal b ≡ 0 → ⊥) → number ≡ refusal b → MarkPromise b sheet number
  mark_turned_back n m = record { number_is = m ∙ sym (mark_refused_board n); right = λ k. absurd (n k) }

-- the inner marker's number on what was read
pub mark_promised : {b sheet : List ℕ} {t : Track} {p : Position} {number : ℕ} → OnBoard b t p → number ≡ mark_for t p sheet → MarkPromise b sheet number
mark_promised {b} {sheet} {number = number} on e =
    let m : number ≡ mark_for (track_said b) (position_said b) sheet = subst₂ (λ (t : Track) (p : Position). number ≡ mark_for t p sheet) on.track on.position e in
    record {
      number_is = m ∙ sym (mark_read_board b sheet on.accepted);
      right = λ none. subst (λ (n : ℕ). (n ≡ 0) ↔ Right (track_said b) (position_said b) sheet) (sym m)
          (marked_right (track_said b) (position_said b) (subst₂ Ready on.track on.position on.ready).bounded.laid sheet);
    }

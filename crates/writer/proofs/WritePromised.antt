-- How the write on a board in bytes keeps its promise: an answer as defined is right, by the theorems on the definition; a refused board has the
-- definition's, and on any other the inner write's answer is it.
-- What is written stands from the start of what was lent, so the first bytes at exit are it, and the others as lent.
use Prim.Native.Nat.{ℕ}
use mathlib.Core.List.{List}
use mathlib.Core.Path.{◌≡◌, sym, ap, ◌∙◌, subst}
use lib.ListN.{length, take, drop}
use lib.Seq.{take_at, drop_at}
use Rattle.model.specs.Lists.{overwritten}
use Rattle.model.specs.Track.{Track}
use Rattle.model.specs.Position.{Position}
use Rattle.model.specs.Reading.{Bytes, refusal}
use Rattle.faircopy.specs.Write.{WriteAnswer, write_in, write_of}
use Rattle.faircopy.specs.WriteRight.{NumbersRight, WrittenRight}
use Rattle.faircopy.proofs.WriteMet.{of_refused, of_read, numbers_right, nothing_written, copy_right}
use Rattle.board.specs.OnBoard.{OnBoard}
use Rattle.writer.specs.Given.{BoardTrack, WriteGiven}
use Rattle.writer.specs.Operation.{WritePromise}

module _ (b : List ℕ) (bytes : Bytes b) (sheet copy : List ℕ) {number count : ℕ} {copy' : List ℕ} (given : WriteGiven (write_of b sheet (length copy)) copy number count copy') where
  -- what was written, and what was lent past it
  first_written : take count copy' ≡ (write_of b sheet (length copy)).written
  first_written = ap (take count) given.copy_is ∙ take_at (write_of b sheet (length copy)).written (drop (length (write_of b sheet (length copy)).written) copy) count (sym given.count_is)

  past_lent : drop count copy' ≡ drop count copy
  past_lent =
      ap (drop count) given.copy_is ∙
      drop_at (write_of b sheet (length copy)).written (drop (length (write_of b sheet (length copy)).written) copy) count (sym given.count_is) ∙
      ap (λ (n : ℕ). drop n copy) (sym given.count_is)

  pub write_promised : WritePromise b sheet copy number count copy'
  write_promised = record {
    given = given;
    nothing = λ n. let none = nothing_written b sheet (length copy) (λ z. n (given.number_is ∙ z)) in (given.count_is ∙ ap length none, given.copy_is ∙ ap (λ (w : List ℕ). overwritten w copy) none);
    past = past_lent;
    numbers = subst (NumbersRight b sheet (length copy)) (sym given.number_is) (numbers_right b sheet (length copy) bytes);
    right = λ z. subst (WrittenRight b sheet) (sym first_written) (copy_right b sheet (length copy) bytes (sym given.number_is ∙ z));
  }

-- a refused board
pub write_turned_back : {b sheet copy copy' : List ℕ} {number count : ℕ} → Bytes b → (refusal b ≡ 0 → ⊥) → number ≡ refusal b → count ≡ 0 → copy' ≡ copy → WritePromise b sheet copy number count copy'
write_turned_back {b} {sheet} {copy} bytes n m none same =
    let a = of_refused b sheet (length copy) n in
    write_promised b bytes sheet copy (record { number_is = rw a m; count_is = rw a none; copy_is = rw a same })

-- an accepted board
module _ {b : List ℕ} {t : Track} {p : Position} (on : OnBoard b t p) where
  pub board_track : BoardTrack t
  board_track = record { board = b; accepted = on.accepted; says = sym on.track }

  pub write_read : Bytes b → (sheet copy : List ℕ) {number count : ℕ} {copy' : List ℕ} → WriteGiven (write_in t sheet (length copy)) copy number count copy' → WritePromise b sheet copy number count copy'
  write_read bytes sheet copy {number} {count} {copy'} given =
      write_promised b bytes sheet copy
      (subst (λ (a : WriteAnswer). WriteGiven a copy number count copy') (ap (λ (t : Track). write_in t sheet (length copy)) on.track ∙ sym (of_read b sheet (length copy) on.accepted)) given)

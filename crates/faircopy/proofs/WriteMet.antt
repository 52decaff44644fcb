-- The write as defined is what is promised of it: what its numbers mean, and what it writes on 0.
-- By the definition's tests: 1 to 9 of the board, 39, and the copy's own rows (CopyRows.antt).
use Prim.Native.Nat.{ℕ, ◌≤◌}
use native.Mathlib.Omega.{arith}
use mathlib.Core.List.{List, []}
use mathlib.Core.Path.{◌≡◌, refl, sym, ◌∙◌, ap, subst}
use mathlib.Core.Bool.{Bool, true, false, cond, not, ◌||◌}
use mathlib.Core.Logic.{◌⊎◌, inl, inr}
use lib.ListN.{length}
use lib.Dec.{leb, ltb, eqb}
use borrow.Author.Tests.{eq-eqb, eqb-true, eqb-false, le-ltb, ltb-false, not-false}
use Rattle.model.specs.Lists.{any_of}
use Rattle.model.specs.Position.{Position, at, Once}
use Rattle.model.specs.Track.{Track}
use Rattle.model.specs.Accepted.{held_limit, Laid, Limited}
use Rattle.model.specs.Reading.{Bytes, zones_said, refusal, track_said}
use Rattle.model.proofs.BoolLaws.{both_ways, decided, or_false_left, or_false_right}
use Rattle.model.proofs.ReadingLaws.{refusal_small, if_accepted, if_refused, no_row, laid_said, ready_said, accepted_track, accepted_length}
use Rattle.faircopy.specs.BoardBytes.{needs_two, copy_bytes}
use Rattle.faircopy.specs.Write.{WriteAnswer, write_refused, unwritable, write_tested, write_in, write_of}
use Rattle.faircopy.specs.FairCopy.{Enough}
use Rattle.faircopy.specs.WriteRight.{Fits, NumbersRight, WrittenRight}
use Rattle.faircopy.proofs.Words.{limited_of, of_limited, all_fit}
use Rattle.faircopy.proofs.CopyRows.{three, zero_of, laid_of, six_of, word_of}
use Rattle.faircopy.proofs.CopyMet.{enough_of, of_enough, own_enough, written_right}

-- the definition by its tests

pub write_unwritable : (t : Track) (sheet : Position) (room : ℕ) → unwritable t sheet room ≡ true → write_in t sheet room ≡ write_refused 39
unfolding write_in
write_unwritable t sheet room e = ap (λ (s : Bool). cond s (write_refused 39) (write_tested (copy_bytes t sheet))) e

pub write_tested_lem : (t : Track) (sheet : Position) (room : ℕ) → unwritable t sheet room ≡ false → write_in t sheet room ≡ write_tested (copy_bytes t sheet)
unfolding write_in
write_tested_lem t sheet room e = ap (λ (s : Bool). cond s (write_refused 39) (write_tested (copy_bytes t sheet))) e

module _ (c : List ℕ) where
  pub tested_zero : refusal c ≡ 0 → write_tested c ≡ record { number = 0; written = c }
  unfolding write_tested
  tested_zero = if_accepted c _ _

  pub tested_refused : (refusal c ≡ 0 → ⊥) → write_tested c ≡ write_refused (refusal c)
  unfolding write_tested
  tested_refused = if_refused c _ _

  -- what was tested holds where none of the rows does, and where some row does nothing is written
  tested_cases : (P : WriteAnswer → Type 0) → (refusal c ≡ 0 → P (record { number = 0; written = c })) → ((refusal c ≡ 0 → ⊥) → P (write_refused (refusal c))) → P (write_tested c)
  tested_cases P none some = go (decided (eqb (refusal c) 0))
    where
      go : (eqb (refusal c) 0 ≡ true) ⊎ (eqb (refusal c) 0 ≡ false) → P (write_tested c)
      go (inl e) = let z = eqb-true (refusal c) 0 e in subst P (sym (tested_zero z)) (none z)
      go (inr e) = let n = eqb-false (refusal c) 0 e in subst P (sym (tested_refused n)) (some n)

  tested_number : (write_tested c).number ≡ refusal c
  tested_number = tested_cases (λ a. a.number ≡ refusal c) sym (λ _. refl)

  tested_nothing : ((write_tested c).number ≡ 0 → ⊥) → (write_tested c).written ≡ []
  tested_nothing = tested_cases (λ a. (a.number ≡ 0 → ⊥) → a.written ≡ []) (λ _ n. absurd (n refl)) (λ _ _. refl)

  tested_most : length (write_tested c).written ≤ 486
  tested_most = tested_cases (λ a. length a.written ≤ 486) (accepted_length c) (λ _. omega arith)

-- 39 exactly where the call doesn't fit
module _ (b : List ℕ) (sheet : Position) (room : ℕ) where
  of_fits : Fits b sheet room → unwritable (track_said b) sheet room ≡ false
  unfolding unwritable
  of_fits f = simp (eq-eqb (length sheet) (track_said b).zones f.each, of_limited sheet f.limited, le-ltb room (length (copy_bytes (track_said b) sheet)) (of_enough (track_said b) sheet f.room))

  fits_of : refusal b ≡ 0 → unwritable (track_said b) sheet room ≡ false → Fits b sheet room
  unfolding unwritable
  fits_of accepted e =
      let rest = any_of (leb held_limit) sheet || ltb room (length (copy_bytes (track_said b) sheet)) in
      let later : rest ≡ false = or_false_right (not (eqb (length sheet) (track_said b).zones)) rest e in
      record {
        accepted = accepted;
        each = eqb-true (length sheet) (track_said b).zones (not-false _ (or_false_left (not (eqb (length sheet) (track_said b).zones)) rest e));
        limited = limited_of sheet (or_false_left (any_of (leb held_limit) sheet) (ltb room (length (copy_bytes (track_said b) sheet))) later);
        room = enough_of (track_said b) sheet (ltb-false room (length (copy_bytes (track_said b) sheet)) (or_false_right (any_of (leb held_limit) sheet) (ltb room (length (copy_bytes (track_said b) sheet))) later));
      }

  pub of_refused : (refusal b ≡ 0 → ⊥) → write_of b sheet room ≡ write_refused (refusal b)
  unfolding write_of
  of_refused = if_refused b _ _

  pub of_read : refusal b ≡ 0 → write_of b sheet room ≡ write_in (track_said b) sheet room
  unfolding write_of
  of_read = if_accepted b _ _

  -- a call that fits has its copy tested
  of_tested : Fits b sheet room → write_of b sheet room ≡ write_tested (copy_bytes (track_said b) sheet)
  of_tested f = of_read f.accepted ∙ write_tested_lem (track_said b) sheet room (of_fits f)

  copy_number : Fits b sheet room → (write_of b sheet room).number ≡ refusal (copy_bytes (track_said b) sheet)
  copy_number f = ap (λ (a : WriteAnswer). a.number) (of_tested f) ∙ tested_number (copy_bytes (track_said b) sheet)

  -- what holds of a refused board, on 39 and of the copy's test holds of the write
  in_cases : (P : WriteAnswer → Type 0) → ((refusal b ≡ 0 → ⊥) → P (write_refused (refusal b))) → ((Fits b sheet room → ⊥) → P (write_refused 39))
      → (Fits b sheet room → P (write_tested (copy_bytes (track_said b) sheet))) → P (write_of b sheet room)
  in_cases P refused short tested = go (decided (eqb (refusal b) 0)) (decided (unwritable (track_said b) sheet room))
    where
      go : (eqb (refusal b) 0 ≡ true) ⊎ (eqb (refusal b) 0 ≡ false) → (unwritable (track_said b) sheet room ≡ true) ⊎ (unwritable (track_said b) sheet room ≡ false) → P (write_of b sheet room)
      go (inr e) u = let n = eqb-false (refusal b) 0 e in subst P (sym (of_refused n)) (refused n)
      go (inl e) (inl u) = subst P (sym (of_read (eqb-true (refusal b) 0 e) ∙ write_unwritable (track_said b) sheet room u)) (short (λ f. both_ways u (of_fits f)))
      go (inl e) (inr u) = let f = fits_of (eqb-true (refusal b) 0 e) u in subst P (sym (of_tested f)) (tested f)

  of_39 : refusal b ≡ 0 → (Fits b sheet room → ⊥) → (write_of b sheet room).number ≡ 39
  of_39 accepted n = in_cases (λ a. a.number ≡ 39) (λ m. absurd (m accepted)) (λ _. refl) (λ f. absurd (n f))

  fits_zero : (write_of b sheet room).number ≡ 0 → Fits b sheet room
  fits_zero = in_cases (λ a. a.number ≡ 0 → Fits b sheet room) (λ n e. absurd (n e)) (λ _ e. absurd (omega arith)) (λ f _. f)

  zones_each : Fits b sheet room → length sheet ≡ zones_said b
  unfolding track_said
  zones_each f = f.each

  three_numbers : Fits b sheet room → ((write_of b sheet room).number ≡ 0) ⊎ ((write_of b sheet room).number ≡ 6) ⊎ ((write_of b sheet room).number ≡ 7)
  three_numbers f = subst (λ (n : ℕ). (n ≡ 0) ⊎ (n ≡ 6) ⊎ (n ≡ 7)) (sym (copy_number f)) (three b f.accepted (needs_two sheet) sheet)

  zero_laid : Fits b sheet room → (write_of b sheet room).number ≡ 0 → Laid (track_said b) sheet
  zero_laid f e = laid_of b f.accepted (needs_two sheet) sheet (zones_each f) (all_fit sheet) (sym (copy_number f) ∙ e)

  laid_zero : Fits b sheet room → Laid (track_said b) sheet → (write_of b sheet room).number ≡ 0
  laid_zero f laid = copy_number f ∙ zero_of b f.accepted (needs_two sheet) sheet (zones_each f) (all_fit sheet) laid

  word_six : Fits b sheet room → (z : ℕ) → at sheet z ≡ 1 → (write_of b sheet room).number ≡ 6
  word_six f z e = copy_number f ∙ six_of b f.accepted (needs_two sheet) sheet (zones_each f) (all_fit sheet) z e

  six_word : Fits b sheet room → (write_of b sheet room).number ≡ 6 → (z : ℕ) × (at sheet z ≡ 1)
  six_word f e = word_of b f.accepted (needs_two sheet) sheet (zones_each f) (all_fit sheet) (sym (copy_number f) ∙ e)

  -- 7 is the number that is left
  seven_of : Fits b sheet room → ((z : ℕ) → at sheet z ≡ 1 → ⊥) → (Once sheet → ⊥) → (write_of b sheet room).number ≡ 7
  seven_of f free twice = go (three_numbers f)
    where
      go : ((write_of b sheet room).number ≡ 0) ⊎ ((write_of b sheet room).number ≡ 6) ⊎ ((write_of b sheet room).number ≡ 7) → (write_of b sheet room).number ≡ 7
      go (inl e) = absurd (twice (zero_laid f e).once)
      go (inr (inl e)) = let x = six_word f e in absurd (free x.0 x.1)
      go (inr (inr e)) = e

  -- where no carrier stands in two zones and no word is 1, the sheet is laid on the track
  laid_by : Fits b sheet room → ((z : ℕ) → at sheet z ≡ 1 → ⊥) → Once sheet → Laid (track_said b) sheet
  laid_by f free once = let on = laid_said b (no_row b f.accepted) in record { each = f.each; once = once; free_heading = free; inside = on.inside; home_in = on.home_in }

  pub numbers_right : Bytes b → NumbersRight b sheet room (write_of b sheet room).number
  numbers_right bytes = record {
    refused = λ n. ap (λ (a : WriteAnswer). a.number) (of_refused n);
    unwritable = λ accepted. (λ e f. omega (arith, copy_number f, refusal_small (copy_bytes (track_said b) sheet)), of_39 accepted);
    tested = copy_number;
    numbers = three_numbers;
    zero = λ f. (zero_laid f, laid_zero f);
    six = λ f. (six_word f, λ x. word_six f x.0 x.1);
    seven = λ f. (λ e. (λ z one. not_both e (word_six f z one), λ once. seven_twice f e once), λ x. seven_of f x.0 x.1);
    only = fits_zero;
    own = λ accepted e long.
        let ready = ready_said b bytes accepted in
        let laid : Laid (track_said b) sheet = subst (Laid (track_said b)) (sym e) ready.bounded.laid in
        let enough : Enough (track_said b) sheet room = subst (λ (p : Position). Enough (track_said b) p room) (sym e) (own_enough b bytes accepted long) in
        laid_zero (record { accepted = accepted; each = laid.each; limited = subst Limited (sym e) ready.limited; room = enough }) laid;
    ample = λ accepted most. let few = (accepted_track b accepted).zones_most in record { narrow = λ _. omega arith; wide = λ _. omega arith };
  }
    where
      not_both : {n : ℕ} → n ≡ 7 → n ≡ 6 → ⊥
      not_both e f = omega arith

      seven_twice : Fits b sheet room → (write_of b sheet room).number ≡ 7 → Once sheet → ⊥
      seven_twice f e once =
          let zero = laid_zero f (laid_by f (λ z one. not_both e (word_six f z one)) once) in
          omega arith

  pub copy_right : Bytes b → (write_of b sheet room).number ≡ 0 → WrittenRight b sheet (write_of b sheet room).written
  copy_right bytes e =
      let f = fits_zero e in
      let none : refusal (copy_bytes (track_said b) sheet) ≡ 0 = sym (copy_number f) ∙ e in
      subst (WrittenRight b sheet) (sym (ap (λ (a : WriteAnswer). a.written) (of_tested f ∙ tested_zero (copy_bytes (track_said b) sheet) none)))
      (written_right b bytes f.accepted sheet f.each f.limited none)

  -- on every other number nothing is written
  pub nothing_written : ((write_of b sheet room).number ≡ 0 → ⊥) → (write_of b sheet room).written ≡ []
  nothing_written = in_cases (λ a. (a.number ≡ 0 → ⊥) → a.written ≡ []) (λ _ _. refl) (λ _ _. refl) (λ f. tested_nothing (copy_bytes (track_said b) sheet))

  -- no copy is longer than the longest board
  pub written_most : length (write_of b sheet room).written ≤ 486
  written_most = in_cases (λ a. length a.written ≤ 486) (λ _. omega arith) (λ _. omega arith) (λ f. tested_most (copy_bytes (track_said b) sheet))

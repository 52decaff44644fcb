-- The write on a track, by its tests: 39 for a sheet of another size, a word over the limit or too little room, else the copy's own rows.
-- Each case of the definition; the bytes drafted are the copy's, and on the track of an accepted board rows 6 and 7 are all that can refuse them.
use Prim.Native.Nat.{ℕ, ◌≤◌, ◌<◌}
use native.Mathlib.Omega.{arith}
use mathlib.Core.List.{List}
use mathlib.Core.Path.{◌≡◌, refl, sym, ◌∙◌, ap, ap₂, subst}
use mathlib.Core.Bool.{Bool, true, false, not, ◌||◌}
use lib.ListN.{length, take, drop}
use lib.Seq.{take_at}
use lib.Dec.{leb, ltb, eqb}
use borrow.Author.Tests.{lt-ltb, le-ltb, eq-eqb, ne_eqb, le-leb, leb-true}
use Rattle.model.specs.Layout.{entry_from}
use Rattle.model.specs.Lists.{any_of, overwritten}
use Rattle.model.specs.Track.{Track}
use Rattle.model.specs.Position.{Position, carrier_of}
use Rattle.model.specs.Accepted.{AcceptedTrack, Laid, held_limit, Limited}
use Rattle.model.specs.Reading.{Whole, zone_refusal, zones_said, track_said, position_said, refusal}
use Rattle.model.proofs.BoolLaws.{same_test, or_left, or_right}
use Rattle.model.proofs.ListLaws.{any_ext}
use Rattle.model.proofs.ReadingLaws.{no_row, accepted_track, laid_said}
use Rattle.faircopy.specs.BoardBytes.{board_bytes, needs_two, copy_bytes}
use Rattle.faircopy.specs.Write.{WriteAnswer, unwritable, write_tested, write_in}
use Rattle.faircopy.proofs.BytesSaid.{length_board, zones_is, from_is}
use Rattle.faircopy.proofs.CopyRows.{only_zone_rows}
use Rattle.faircopy.proofs.WriteMet.{write_unwritable, write_tested_lem, tested_zero, tested_refused}
use Rattle.writer.specs.Given.{BoardTrack, WriteGiven}
use Rattle.writer.specs.Drafting.{Draftable}

-- what the tests leave can be drafted
module _ {t : Track} (on : BoardTrack t) where
  sizes : AcceptedTrack t
  sizes = subst AcceptedTrack on.says (accepted_track on.board on.accepted)

  on_track : (p : Position) → Laid (track_said on.board) p → Laid t p
  on_track p = subst (λ (s : Track). Laid s p) on.says

  pub few_zones : t.zones ≤ 96
  few_zones = sizes.zones_most

  pub draftable_of : {p : Position} → length p ≡ t.zones → Limited p → Draftable t p
  draftable_of each limited =
      let first = on_track (position_said on.board) (laid_said on.board (no_row on.board on.accepted)) in
      record {
        points_most = sizes.points_most;
        home_in = first.home_in;
        zones_most = sizes.zones_most;
        ends_count = sizes.ends_count;
        inside = first.inside;
        each = each;
        limited = limited;
      }

-- from 512 on a word's carrier doesn't fit one byte
pub two_by_words : (p : Position) → any_of (leb 512) p ≡ needs_two p
unfolding needs_two
two_by_words p =
    any_ext (leb 512) (λ v. leb 256 (carrier_of v)) p
    (λ v _. same_test (leb 512 v) (leb 256 (carrier_of v))
    (λ e. le-leb 256 (carrier_of v) (let h : 512 ≤ v = leb-true 512 v e in omega arith))
    (λ e. le-leb 512 v (let h : 256 ≤ carrier_of v = leb-true 256 (carrier_of v) e in omega arith)))

module _ (t : Track) (p : Position) where
  -- how many bytes the copy has
  pub copy_count : {v : Bool} {count : ℕ} → v ≡ needs_two p → count ≡ entry_from v t.zones → count ≡ length (copy_bytes t p)
  copy_count {v} e f = f ∙ ap (λ (w : Bool). entry_from w t.zones) e ∙ sym (length_board (needs_two p) t p)

  -- 39

  module _ (copy : List ℕ) where
    given_39 : unwritable t p (length copy) ≡ true → WriteGiven (write_in t p (length copy)) copy 39 0 copy
    given_39 e = let a = write_unwritable t p (length copy) e in record { number_is = rw a; count_is = rw a; copy_is = rw a }

    pub other_size : (length p ≡ t.zones → ⊥) → WriteGiven (write_in t p (length copy)) copy 39 0 copy
    unfolding unwritable
    other_size n = given_39 (or_left (not (eqb (length p) t.zones)) (any_of (leb held_limit) p || ltb (length copy) (length (copy_bytes t p))) (ap not (ne_eqb (length p) t.zones n)))

    pub word_over : any_of (leb held_limit) p ≡ true → WriteGiven (write_in t p (length copy)) copy 39 0 copy
    unfolding unwritable
    word_over e =
        given_39
        (or_right (not (eqb (length p) t.zones)) (any_of (leb held_limit) p || ltb (length copy) (length (copy_bytes t p)))
        (or_left (any_of (leb held_limit) p) (ltb (length copy) (length (copy_bytes t p))) e))

    pub short_room : length copy < length (copy_bytes t p) → WriteGiven (write_in t p (length copy)) copy 39 0 copy
    unfolding unwritable
    short_room h =
        given_39
        (or_right (not (eqb (length p) t.zones)) (any_of (leb held_limit) p || ltb (length copy) (length (copy_bytes t p)))
        (or_right (any_of (leb held_limit) p) (ltb (length copy) (length (copy_bytes t p))) (lt-ltb (length copy) (length (copy_bytes t p)) h)))

    -- and none of its parts
    pub tested_given : length p ≡ t.zones → any_of (leb held_limit) p ≡ false → length (copy_bytes t p) ≤ length copy → {number count : ℕ} {copy' : List ℕ}
        → WriteGiven (write_tested (copy_bytes t p)) copy number count copy' → WriteGiven (write_in t p (length copy)) copy number count copy'
    unfolding unwritable
    tested_given each words room {number} {count} {copy'} =
        subst (λ (a : WriteAnswer). WriteGiven a copy number count copy')
        (sym (write_tested_lem t p (length copy) (simp (eq-eqb (length p) t.zones each, words, le-ltb (length copy) (length (copy_bytes t p)) room))))

  -- the bytes that were drafted

  pub whole_copy : Whole (copy_bytes t p)
  whole_copy = length_board (needs_two p) t p ∙ sym (from_is (needs_two p) t p (zones_said (copy_bytes t p)) ∙ ap (entry_from (needs_two p)) (zones_is (needs_two p) t p))

  pub copy_taken : (lent : List ℕ) {v : Bool} {count : ℕ} {draft : List ℕ} → v ≡ needs_two p → count ≡ entry_from v t.zones → draft ≡ overwritten (board_bytes v t p) lent → take count draft ≡ copy_bytes t p
  copy_taken lent {v} {count} {draft} e f l =
      ap₂ (λ (n : ℕ) (x : List ℕ). take n x) (copy_count e f) (l ∙ ap (λ (w : Bool). overwritten (board_bytes w t p) lent) e) ∙
      take_at (copy_bytes t p) (drop (length (copy_bytes t p)) lent) (length (copy_bytes t p)) refl

  module _ (on : BoardTrack t) where
    -- rows 6 and 7 are the copy's refusal
    pub zone_refusal_lem : zone_refusal (copy_bytes t p) ≡ refusal (copy_bytes t p)
    zone_refusal_lem = subst (λ (s : Track). zone_refusal (copy_bytes s p) ≡ refusal (copy_bytes s p)) on.says (sym (only_zone_rows on.board on.accepted (needs_two p) p))

    module _ (copy : List ℕ) {number : ℕ} (refused : number ≡ zone_refusal (copy_bytes t p)) where
      pub copy_refused : (number ≡ 0 → ⊥) → WriteGiven (write_tested (copy_bytes t p)) copy number 0 copy
      copy_refused n =
          let same : number ≡ refusal (copy_bytes t p) = refused ∙ zone_refusal_lem in
          let a = tested_refused (copy_bytes t p) (λ e. n (same ∙ e)) in
          record { number_is = rw a same; count_is = rw a; copy_is = rw a }

      pub copy_stored : {count : ℕ} {copy' : List ℕ} → number ≡ 0 → count ≡ length (copy_bytes t p) → copy' ≡ overwritten (copy_bytes t p) copy → WriteGiven (write_tested (copy_bytes t p)) copy 0 count copy'
      copy_stored none counted stored =
          let a = tested_zero (copy_bytes t p) (sym (refused ∙ zone_refusal_lem) ∙ none) in
          record { number_is = rw a; count_is = rw a counted; copy_is = rw a stored }

-- what is copied whole stands from the first place on
pub copied_whole : (copy : List ℕ) {from whole copy' : List ℕ} → from ≡ whole → copy' ≡ overwritten from copy → copy' ≡ overwritten whole copy
copied_whole copy same stored = stored ∙ ap (λ (l : List ℕ). overwritten l copy) same

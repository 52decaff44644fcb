-- A board in both versions gets one key: the definitions on bytes take a board by its refusal and by what it says, so boards that agree in these
-- get the same answers, and the same board in version 2 agrees with the board.
use Prim.Native.Nat.{ℕ}
use mathlib.Core.List.{List, []}
use mathlib.Core.Path.{◌≡◌, sym, ◌∙◌}
use mathlib.Core.Bool.{true, cond, true≢false}
use lib.ListN.{length}
use lib.Dec.{eqb}
use Rattle.model.specs.Reading.{zones_said, track_said, position_said, refusal}
use Rattle.model.proofs.ReadingLaws.{no_row, length_ends, length_position, laid_said, ready_said}
use Rattle.rules.specs.Key.{turned_back, key_in, key_of_by}
use Rattle.rules.specs.SearchCount.{searched}
use Rattle.rules.specs.Collapse.{collapse_in, collapse_of}
use Rattle.rules.specs.Sheet.{mark_for, mark_of_by}
use Rattle.movelog.specs.Replay.{replay_refused, replay_in, replay_of}
use Rattle.faircopy.specs.Write.{write_refused, write_in, write_of}
use Rattle.faircopy.proofs.BytesSaid.{CarriersFit, version_is, track_read, position_read}
use Rattle.faircopy.proofs.CopyRows.{zero_of}
use Rattle.faircopy.proofs.CopyMet.{copy_bytes_lem}
use Rattle.versions.specs.Versions.{in_version2, SaySame, SameAnswers, InBothVersions, AnswersBySaid, OneKey}

pub in_both_versions : InBothVersions
unfolding in_version2 track_said
in_both_versions b e =
    let p = position_said b in
    let each : length p ≡ zones_said b = length_position b in
    let all_fit : CarriersFit true p = λ q. absurd (true≢false q) in
    record {
      version = version_is true (track_said b) p;
      accepted = zero_of b e true p each all_fit (laid_said b (no_row b e));
      same = record { track = sym (track_read true (track_said b) p (length_ends b)); position = sym (position_read true (track_said b) p each all_fit) };
      bytes = λ bytes. copy_bytes_lem b e true p (ready_said b bytes e).limited;
    }

-- by the refusal and by what is said
pub same_answers : (b d : List ℕ) → refusal b ≡ refusal d → SaySame b d → SameAnswers b d
unfolding key_of_by collapse_of mark_of_by replay_of write_of
same_answers b d r s = record {
  key = λ m n i. cond (eqb (r i) 0) (key_in (s.track i) (s.position i) m n) (turned_back (r i));
  searched = λ i. searched (s.track i) (s.position i);
  collapse = λ n i. cond (eqb (r i) 0) (collapse_in (s.track i) (s.position i) n) (record { number = r i; list = [] });
  mark = λ ws i. cond (eqb (r i) 0) (mark_for (s.track i) (s.position i) ws) (r i);
  replay = λ log n i. cond (eqb (r i) 0) (replay_in (s.track i) (s.position i) log n) (replay_refused (r i));
  write = λ sheet n i. cond (eqb (r i) 0) (write_in (s.track i) sheet n) (write_refused (r i));
}

pub answers_by_said : AnswersBySaid
answers_by_said b d e f s = same_answers b d (e ∙ sym f) s

pub one_key : OneKey
one_key b e = let w = in_both_versions b e in answers_by_said b (in_version2 b) e w.accepted w.same

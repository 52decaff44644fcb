-- What is known of a board that was read: its number is the refusal of its bytes, and where that is 0 the first words and zones of its
-- arrays are the track and the position of its bytes, ready for what works on those. From what the reader promises.
use Prim.Native.Nat.{ℕ, ◌*◌, ◌≤◌}
use native.Mathlib.Omega.{arith}
use mathlib.Core.List.{List}
use mathlib.Core.Path.{◌≡◌, sym, ◌∙◌, ap, subst, subst₂}
use lib.ListN.{length, take}
use Rattle.model.specs.Track.{Track, track_of}
use Rattle.model.specs.Position.{Position}
use Rattle.model.specs.Accepted.{Ready}
use Rattle.model.specs.Reading.{Bytes, zones_said, track_said, position_said, refusal}
use Rattle.model.proofs.ReadingLaws.{no_row, in_range, length_ends, length_position, ready_said}
use Rattle.board.specs.OnBoard.{OnBoard}
use Rattle.board.specs.Given.{BoardRead, head_said, board_said, board_of}
use Rattle.board.proofs.GivenLaws.{take_padded, length_padded, given_number, given_said}

-- the track and the position of a board that was read: the first words and zones of its arrays
abbrev pub track_read : BoardRead → Track
track_read r = track_of r.head (take (2 * r.head.zones) r.ends)

abbrev pub position_read : BoardRead → Position
position_read r = take r.head.zones r.position

-- what a caller of the reader knows of a board with number 0: they are what the bytes say, and inside the arrays
pub record Said (b : List ℕ) (r : BoardRead) : Type 0 where
  pub accepted : refusal b ≡ 0
  pub few_zones : r.head.zones ≤ 96
  pub ends_size : length r.ends ≡ 192
  pub position_size : length r.position ≡ 96
  pub track : track_read r ≡ track_said b
  pub position : position_read r ≡ position_said b

said_board : (b : List ℕ) → refusal b ≡ 0 → Said b (board_said b)
unfolding board_said head_said track_said
said_board b e =
    let m : zones_said b ≤ 96 = (in_range b (no_row b e).range).zones_most in
    record {
      accepted = e;
      few_zones = m;
      ends_size = length_padded 192 (track_said b).ends (let l : length (track_said b).ends ≡ 2 * zones_said b = length_ends b in omega arith);
      position_size = length_padded 96 (position_said b) (let l : length (position_said b) ≡ zones_said b = length_position b in omega arith);
      track = ap (track_of (head_said b)) (take_padded 192 (2 * zones_said b) (track_said b).ends (length_ends b));
      position = take_padded 96 (zones_said b) (position_said b) (length_position b);
    }

pub said : {b : List ℕ} {r : BoardRead} → r ≡ board_of b → r.number ≡ 0 → Said b r
said {b} {r} e n =
    let k : refusal b ≡ 0 = sym (given_number b) ∙ ap (λ (s : BoardRead). s.number) (sym e) ∙ n in
    subst (Said b) (sym (e ∙ given_said b k)) (said_board b k)

pub number_read : (b : List ℕ) {r : BoardRead} → r ≡ board_of b → r.number ≡ refusal b
number_read b e = ap (λ (s : BoardRead). s.number) e ∙ given_number b

module _ {b : List ℕ} {r : BoardRead} (s : Said b r) where
  pub words_in : 2 * r.head.zones ≤ length r.ends
  words_in = omega (arith, s.few_zones, s.ends_size)

  pub zones_in : r.head.zones ≤ length r.position
  zones_in = omega (arith, s.few_zones, s.position_size)

  pub on_board_read : Bytes b → OnBoard b (track_read r) (position_read r)
  on_board_read small = record {
    accepted = s.accepted;
    track = s.track;
    position = s.position;
    ready = subst₂ Ready (sym s.track) (sym s.position) (ready_said b small s.accepted);
  }

-- A board in both versions gets one key (request i of document 02): the same board in version 2 is accepted and says the same, and boards that
-- say the same get the same answers, also where they are refused by a row past 5. Nothing past what a board says depends on its version.
use Rattle.std.specs.Prelude.{ℕ, ◌≤◌, ◌<◌, true, List, ◌≡◌}
use Rattle.model.specs.Reading.{Bytes, version_said, points_said, home_said, zones_said, end_a, end_b, carrier_in, heading_in, track_said, position_said, refusal}
use Rattle.model.specs.Rows.{Row}
use Rattle.rules.specs.Key.{key_of}
use Rattle.rules.specs.SearchCount.{searched}
use Rattle.rules.specs.Collapse.{collapse_of}
use Rattle.rules.specs.Sheet.{mark_of}
use Rattle.movelog.specs.Replay.{replay_of}
use Rattle.faircopy.specs.BoardBytes.{board_bytes}
use Rattle.faircopy.specs.Write.{write_of}

-- the same board in version 2
unfoldable pub in_version2 : List ℕ → List ℕ
in_version2 b = board_bytes true (track_said b) (position_said b)

-- two boards say the same track and the same position
pub record SaySame (b d : List ℕ) : Type 0 where
  pub track : track_said b ≡ track_said d
  pub position : position_said b ≡ position_said d

-- d is of version 2, accepted, and says what b says; it is made of bytes if b is
pub record SameInVersion2 (b d : List ℕ) : Type 0 where
  pub version : version_said d ≡ 2
  pub accepted : refusal d ≡ 0
  pub same : SaySame b d
  pub bytes : Bytes b → Bytes d

-- key, collapse, mark, replay and write answer both boards alike, for every room, every sheet and every log, and their search count is one
pub record SameAnswers (b d : List ℕ) : Type 0 where
  pub key : (planRoom listRoom : ℕ) → key_of b planRoom listRoom ≡ key_of d planRoom listRoom
  pub searched : searched (track_said b) (position_said b) ≡ searched (track_said d) (position_said d)
  pub collapse : (listRoom : ℕ) → collapse_of b listRoom ≡ collapse_of d listRoom
  pub mark : (sheet : List ℕ) → mark_of b sheet ≡ mark_of d sheet
  pub replay : (log : List ℕ) (sheetRoom : ℕ) → replay_of b log sheetRoom ≡ replay_of d log sheetRoom
  pub write : (sheet : List ℕ) (copyRoom : ℕ) → write_of b sheet copyRoom ≡ write_of d sheet copyRoom

-- of every accepted board, and so of every one of version 1
abbrev pub InBothVersions : Type 0
InBothVersions = (b : List ℕ) → refusal b ≡ 0 → SameInVersion2 b (in_version2 b)

abbrev pub AnswersBySaid : Type 0
AnswersBySaid = (b d : List ℕ) → refusal b ≡ 0 → refusal d ≡ 0 → SaySame b d → SameAnswers b d

-- together: a board in both versions gets one key
abbrev pub OneKey : Type 0
OneKey = (b : List ℕ) → refusal b ≡ 0 → SameAnswers b (in_version2 b)

-- none of rows 1 to 5 holds: those that go by the version and by the number of bytes
abbrev pub PastFive : List ℕ → Type 0
PastFive b = (n : ℕ) → n ≤ 5 → Row b n → ⊥

-- two boards say the same points, home and zones, and of each zone the same ends, carrier and heading. `SaySame` would not do where they are
-- refused: carrier 0 with heading 2 is carrier 1 with heading 0 in a position.
pub record SayAlike (b d : List ℕ) : Type 0 where
  pub points : points_said b ≡ points_said d
  pub home : home_said b ≡ home_said d
  pub zones : zones_said b ≡ zones_said d
  pub ends_a : (z : ℕ) → z < zones_said b → end_a b z ≡ end_a d z
  pub ends_b : (z : ℕ) → z < zones_said b → end_b b z ≡ end_b d z
  pub carrier : (z : ℕ) → z < zones_said b → carrier_in b z ≡ carrier_in d z
  pub heading : (z : ℕ) → z < zones_said b → heading_in b z ≡ heading_in d z

-- a board in both versions gets one refusal, and with it the same answers
abbrev pub OneRefusal : Type 0
OneRefusal = (b d : List ℕ) → PastFive b → PastFive d → SayAlike b d → (refusal b ≡ refusal d) × SameAnswers b d

-- What the replay promises, for every input whatever. b are the board's bytes; sheet is what was lent, sheet' at exit.
use Rattle.std.specs.Prelude.{ℕ, ◌%◌, ◌≤◌, List, ◌≡◌, ◌⊎◌, length, take, drop}
use Rattle.model.specs.Accepted.{Limited}
use Rattle.model.specs.Reading.{refusal, track_said, position_said}
use Rattle.movelog.specs.Log.{moves_said}
use Rattle.movelog.specs.Replay.{replay_of}
use Rattle.movelog.specs.ReplayRight.{ReplayRight}
use Rattle.replay.specs.Given.{ReplayGiven}

-- the call meets none of 1 to 9, 36 and 37
pub record Replayable (b log : List ℕ) (sheetRoom : ℕ) : Type 0 where
  pub accepted : refusal b ≡ 0
  pub room : (track_said b).zones ≤ sheetRoom
  pub pairs : length log % 2 ≡ 0

pub record ReplayPromise (b log sheet : List ℕ) (number moves : ℕ) (sheet' : List ℕ) : Type 0 where
  -- result and sheet: 1 to 9, 36 and 37, tried in that order, give 0 moves and write nothing
  pub given : ReplayGiven (replay_of b log (length sheet)) sheet number moves sheet'
  -- sheet words past Z are never written
  pub past : drop (track_said b).zones sheet' ≡ drop (track_said b).zones sheet
  -- on a call that meets none of 1 to 9, 36 and 37, in relations alone: the sheet's first Z words show where the moves done lead
  pub right : Replayable b log (length sheet) → ReplayRight (track_said b) (position_said b) (moves_said log) number moves (take (track_said b).zones sheet')
  -- no word that is shown is over the limit
  pub limited : Replayable b log (length sheet) → Limited (take (track_said b).zones sheet')
  -- and 0 and 38 are given on such calls alone
  pub only : (number ≡ 0) ⊎ (number ≡ 38) → Replayable b log (length sheet)

-- A board kept after some moves: the first Z words of a replay's sheet, on 0 and on 38, are written with 0 where enough bytes are lent, and the
-- reader gives them back as that position.
use Rattle.std.specs.Prelude.{ℕ, List, ◌≡◌, ◌⊎◌, length, take}
use Rattle.model.specs.Reading.{track_said}
use Rattle.faircopy.specs.FairCopy.{FairCopy, Enough}
use Rattle.replay.specs.Operation.{ReplayPromise}
use Rattle.writer.specs.Operation.{WritePromise}

-- a replay of a log on a board, and a write with the first Z words of its sheet at exit
pub record ReplayWritten (b log sheet : List ℕ) (replayed moves : ℕ) (sheet' copy : List ℕ) (number count : ℕ) (copy' : List ℕ) : Type 0 where
  pub replay : ReplayPromise b log sheet replayed moves sheet'
  pub write : WritePromise b (take (track_said b).zones sheet') copy number count copy'
  pub done : (replayed ≡ 0) ⊎ (replayed ≡ 38)
  pub room : Enough (track_said b) (take (track_said b).zones sheet') (length copy)

abbrev pub AfterReplay : Type 0
AfterReplay =
    (b log sheet : List ℕ) (replayed moves : ℕ) (sheet' copy : List ℕ) (number count : ℕ) (copy' : List ℕ)
    → ReplayWritten b log sheet replayed moves sheet' copy number count copy'
    → (number ≡ 0) × FairCopy (track_said b) (take (track_said b).zones sheet') (take count copy')

-- A replay on a track and a position: what its functions give, as equations with the definition's answer.
use Rattle.std.specs.Prelude.{ℕ, List, ◌≡◌}
use Rattle.model.specs.Lists.{overwritten}
use Rattle.model.specs.Position.{Position}
use Rattle.movelog.specs.Replay.{ReplayAnswer}

-- a result and the position at exit are a replay's answer
pub record MovesGiven (a : ReplayAnswer) (number moves : ℕ) (position' : Position) : Type 0 where
  pub number_is : number ≡ a.number
  pub moves_is : moves ≡ a.moves
  pub position_is : position' ≡ a.shown

-- a result and the sheet at exit are: the position shown is written from the sheet's start, and past it the sheet stays as it was
pub record ReplayGiven (a : ReplayAnswer) (sheet : List ℕ) (number moves : ℕ) (sheet' : List ℕ) : Type 0 where
  pub number_is : number ≡ a.number
  pub moves_is : moves ≡ a.moves
  pub sheet_is : sheet' ≡ overwritten a.shown sheet

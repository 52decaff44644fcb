-- A track and a position that were read from the bytes of an accepted board: they are what the bytes say, and ready for what works on those.
use Rattle.std.specs.Prelude.{ℕ, List, ◌≡◌}
use Rattle.model.specs.Track.{Track}
use Rattle.model.specs.Position.{Position}
use Rattle.model.specs.Accepted.{Ready}
use Rattle.model.specs.Reading.{refusal, track_said, position_said}

pub record OnBoard (b : List ℕ) (t : Track) (p : Position) : Type 0 where
  pub accepted : refusal b ≡ 0
  pub track : t ≡ track_said b
  pub position : p ≡ position_said b
  pub ready : Ready t p

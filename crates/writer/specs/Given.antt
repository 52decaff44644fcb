-- A write on a track: what it asks, and what it gives, as equations with the definition's answer.
use Rattle.std.specs.Prelude.{ℕ, List, ◌≡◌, length}
use Rattle.model.specs.Lists.{overwritten}
use Rattle.model.specs.Track.{Track}
use Rattle.model.specs.Reading.{refusal, track_said}
use Rattle.faircopy.specs.Write.{WriteAnswer}

-- the track of an accepted board
pub record BoardTrack (t : Track) : Type 0 where
  pub board : List ℕ
  pub accepted : refusal board ≡ 0
  pub says : track_said board ≡ t

-- a result and the lent bytes at exit are a write's answer: what is written stands from their start, and past it they stay as they were
pub record WriteGiven (a : WriteAnswer) (copy : List ℕ) (number count : ℕ) (copy' : List ℕ) : Type 0 where
  pub number_is : number ≡ a.number
  pub count_is : count ≡ length a.written
  pub copy_is : copy' ≡ overwritten a.written copy

-- What a fair copy is, in relations alone, so that the laying of its bytes doesn't have to be believed.
use Rattle.std.specs.Prelude.{ℕ, ◌+◌, ◌*◌, ◌≤◌, ◌<◌, List, ◌≡◌, ◌↔◌}
use Rattle.model.specs.Track.{Track}
use Rattle.model.specs.Position.{Position, at, carrier_of}
use Rattle.model.specs.Reading.{Bytes, version_said, refusal, track_said, position_said}

-- every carrier of the position fits one byte; some carrier doesn't
abbrev pub AllFit : Position → Type 0
AllFit p = (z : ℕ) → carrier_of (at p z) ≤ 255

abbrev pub SomeOver : Position → Type 0
SomeOver p = (z : ℕ) × (255 < carrier_of (at p z))

-- c is a fair copy: the reader accepts it, its track is t and its position p, and its version is 1 exactly where every carrier fits one byte, else 2
pub record FairCopy (t : Track) (p : Position) (c : List ℕ) : Type 0 where
  pub bytes : Bytes c
  pub accepted : refusal c ≡ 0
  pub track : track_said c ≡ t
  pub position : position_said c ≡ p
  pub version_1 : (version_said c ≡ 1) ↔ AllFit p
  pub version_2 : (version_said c ≡ 2) ↔ SomeOver p

-- as many bytes as the copy has, or more
pub record Enough (t : Track) (p : Position) (room : ℕ) : Type 0 where
  pub narrow : AllFit p → 6 + 4 * t.zones ≤ room
  pub wide : SomeOver p → 6 + 5 * t.zones ≤ room

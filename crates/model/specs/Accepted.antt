-- What holds of every board that meets none of the refusals 1 to 9: of its track, and of the position laid on it. They stand apart, since
-- positions that were never a board's first are asked about too. proofs/ReadingLaws.antt proves both; the theorems use nothing else.
use Rattle.std.specs.Prelude.{ℕ, ◌*◌, ◌≤◌, ◌<◌, ◌≡◌, length, eqb}
use Rattle.model.specs.Lists.{how_many}
use Rattle.model.specs.Track.{Track, Linked, start}
use Rattle.model.specs.Position.{Position, at, Once}

-- every two points are linked over zones
abbrev pub HangsTogether : Track → Type 0
HangsTogether t = (p q : ℕ) → p < t.points → q < t.points → Linked t (λ z. Unit {0}) p q

-- the track of an accepted board
pub record AcceptedTrack (t : Track) : Type 0 where
  pub points_least : 2 ≤ t.points
  pub points_most : t.points ≤ 64
  pub zones_least : 2 ≤ t.zones
  pub zones_most : t.zones ≤ 96
  pub ends_count : length t.ends ≡ 2 * t.zones
  -- each point but home has at least two zones
  pub two_zones : (q : ℕ) → q < t.points → (q ≡ t.home → ⊥) → 2 ≤ how_many (eqb q) t.ends
  pub hangs : HangsTogether t

-- a position laid on a track, as the rules need it; retirements and moves keep it
pub record Laid (t : Track) (p : Position) : Type 0 where
  pub each : length p ≡ t.zones
  pub once : Once p
  -- a free zone has heading 0
  pub free_heading : (z : ℕ) → at p z ≡ 1 → ⊥
  pub inside : (w : ℕ) → w < 2 * t.zones → start t w < t.points
  pub home_in : t.home < t.points

-- a position laid on a track of at most 64 points and 96 zones, with two ends for each zone
pub record Bounded (t : Track) (p : Position) : Type 0 where
  pub laid : Laid t p
  pub points_most : t.points ≤ 64
  pub zones_most : t.zones ≤ 96
  pub ends_count : length t.ends ≡ 2 * t.zones

-- what a zone holds, its number in a position, is below this: carriers are 1 to 65,535
abbrev pub held_limit : ℕ
held_limit = 131072

abbrev pub Limited : Position → Type 0
Limited p = (z : ℕ) → at p z < held_limit

-- what the operations on a track and a position ask; the position of every accepted board has it
pub record Ready (t : Track) (p : Position) : Type 0 where
  pub bounded : Bounded t p
  pub limited : Limited p

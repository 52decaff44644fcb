-- What the draft of a copy asks, so that every number fits its byte, and what the store asks. Nothing outside this crate speaks of it.
use Rattle.std.specs.Prelude.{ℕ, ◌*◌, ◌≤◌, ◌<◌, ◌≡◌, Bool, length}
use mathlib.Core.List.{List, map, flatten}
use Rattle.model.specs.declared.Head.{Head}
use Rattle.model.specs.Lists.{numbers_below}
use Rattle.model.specs.Track.{Track, start}
use Rattle.model.specs.Position.{Position}
use Rattle.model.specs.Accepted.{Limited}
use Rattle.faircopy.specs.BoardBytes.{entry_bytes, needs_two, copy_bytes}
use Rattle.writer.specs.Given.{BoardTrack}

-- points, the home point and zones fit a byte each
pub record SmallHead (head : Head) : Type 0 where
  pub points_most : head.points ≤ 64
  pub home_in : head.home < head.points
  pub zones_most : head.zones ≤ 96

-- a track within the sizes whose ends are points, and a sheet with a word for each zone, none over the limit
pub record Draftable (t : Track) (p : Position) : Type 0 where
  pub points_most : t.points ≤ 64
  pub home_in : t.home < t.points
  pub zones_most : t.zones ≤ 96
  pub ends_count : length t.ends ≡ 2 * t.zones
  pub inside : (w : ℕ) → w < 2 * t.zones → start t w < t.points
  pub each : length p ≡ t.zones
  pub limited : Limited p

-- and what the test and the store of a copy ask: the track of an accepted board, the version that the carriers need, and room
pub record Storable (t : Track) (p : Position) (wide : Bool) (copy : List ℕ) : Type 0 where
  pub track : BoardTrack t
  pub version : wide ≡ needs_two p
  pub room : length (copy_bytes t p) ≤ length copy

-- the entries of the first n zones, one after another
abbrev pub all_entries : Bool → Track → Position → ℕ → List ℕ
all_entries wide t p n = flatten (map (entry_bytes wide t p) (numbers_below n))

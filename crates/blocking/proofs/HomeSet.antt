-- Home's set of points at the end of the collapse, by what holds of it: it is closed under what the collapse joins and merges, and least.
-- Any such set gives the same carriers, those that leave at a point outside it; the theorems use nothing else of the collapse.
use Prim.Native.Nat.{ℕ, ◌*◌, ◌<◌}
use mathlib.Core.Path.{◌≡◌}
use mathlib.Core.Bool.{true}
use Rattle.model.specs.Track.{Track, zone_of, start, leave}
use Rattle.model.specs.Position.{Position, is_free, Stands}
use Rattle.rules.specs.Collapse.{free_parts, turns}

-- a set of points that has home, both ends or neither of each zone that is free or whose carrier heads into a part with a loop,
-- and with the point where a carrier leaves the point where it starts
pub record Closed (t : Track) (p : Position) (S : ℕ → Type 0) : Type 0 where
  pub has_home : S t.home
  pub over_free : (w : ℕ) → w < 2 * t.zones → is_free p (zone_of w) ≡ true → S (start t w) → S (leave t w)
  pub over_turning : (w : ℕ) → w < 2 * t.zones → turns t p (free_parts t p) (zone_of w) ≡ true → S (start t w) → S (leave t w)
  pub behind : (c w : ℕ) → Stands p c w → S (leave t w) → S (start t w)

-- the least such set
pub record HomeSet (t : Track) (p : Position) (H : ℕ → Type 0) : Type 1 where
  pub closed : Closed t p H
  pub least : (S : ℕ → Type 0) → Closed t p S → (q : ℕ) → q < t.points → H q → S q

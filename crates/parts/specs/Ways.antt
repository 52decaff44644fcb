-- What the functions of the collapse on sets of points hand to each other: ways over words, counts of free zones, the points of the parts
-- with a loop, and the points grown from with the count of steps.
use Rattle.std.specs.Prelude.{ℕ, ◌*◌, ◌^◌, ◌≤◌, ◌<◌, List, ◌≡◌, Bool, true, false, not, Option, None, Some, ◌&&◌, ◌||◌, sum_by, length, get_or, eqb, ltb}
use Rattle.model.specs.Lists.{numbers_below, keep, how_many}
use Rattle.model.specs.Track.{Track, zone_of, heading_of, rev}
use Rattle.model.specs.Position.{Position, at, is_free}
use Rattle.model.specs.Labels.{label}
use Rattle.rules.specs.Collapse.{free_parts, loop_in}
use Rattle.bits.specs.Sets.{has_bit}
use Rattle.reach.specs.Ways.{WaysOver}
use Rattle.reach.specs.declared.growing.GrownFrom.{GrownFrom}

-- two ends for each zone, each of them one of so many points
pub record EndsAmong (points zones : ℕ) (ends : List ℕ) (p : Position) : Type 0 where
  pub positive : 0 < points
  pub few : points ≤ 64
  pub each : length p ≡ zones
  pub ends_count : length ends ≡ 2 * zones
  pub inside : (w : ℕ) → w < 2 * zones → get_or ends w 0 < points

-- the point where a word leaves, from the ends
abbrev pub end_of : List ℕ → ℕ → ℕ
end_of ends w = get_or ends (rev w) 0

-- a set goes on over the word: its zone is free; or, in merging, its carrier heads the other way, or leaves at a point of s
unfoldable pub goes_on : List ℕ → Position → Bool → ℕ → ℕ → Bool
goes_on ends p merging s w = is_free p (zone_of w) || (merging && (not (eqb (heading_of w) (heading_of (at p (zone_of w)))) || has_bit s (end_of ends w)))

-- the same, where in merging the points of s are given and else none
abbrev pub goes_over : List ℕ → Position → Option ℕ → ℕ → Bool
goes_over ends p None w = goes_on ends p false 0 w
goes_over ends p (Some s) w = goes_on ends p true s w

-- the ways over the words below n that a set goes on over
abbrev pub WaysOn : List ℕ → (ℕ → Bool) → ℕ → List ℕ → Type 0
WaysOn ends goes n ways = WaysOver (λ w. get_or ends w 0) (end_of ends) goes n ways

-- how many free zones below `zones` have their end A at each point
pub record StartCounts (zones : ℕ) (ends : List ℕ) (p : Position) (counts : List ℕ) : Type 0 where
  pub long : length counts ≡ 64
  pub each : (q : ℕ) → q < 64 → get_or counts q 0 ≡ how_many (λ z. is_free p z && eqb (get_or ends (2 * z) 0) q) (numbers_below zones)

-- the sum of the counts of a part's points
unfoldable pub count_in : List ℕ → ℕ → ℕ
count_in counts part = sum_by (λ q. get_or counts q 0) (keep (has_bit part) (numbers_below 64))

-- the set of the points whose free part holds a loop
pub record Looped (t : Track) (p : Position) (s : ℕ) : Type 0 where
  pub word : s < 2 ^ 64
  pub exact : (q : ℕ) → q < t.points → let ls = free_parts t p in has_bit s q ≡ loop_in t p ls (label ls q)

-- the set is exactly so many points, and there were as many steps. A step takes no point that is in the set it is given and puts its own in, so
-- from nothing on each point was taken exactly once. That the set came by steps alone: docs/DECISIONS.md, 43
pub record EachOnce (points : ℕ) (grown : GrownFrom) : Type 0 where
  pub exactly : (q : ℕ) → has_bit grown.set q ≡ ltb q points
  pub steps : grown.steps ≡ points

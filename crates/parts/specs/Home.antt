-- Home's set of points at the end of the collapse, and the position that is left when every carrier that leads into it is taken off.
-- The proof that both are what document 01 lays out is in proofs/LeftCarriers.
use Rattle.std.specs.Prelude.{ℕ, ◌*◌, ◌^◌, ◌<◌, List, map, ◌≡◌, true, cond, length, get_or}
use Rattle.model.specs.Lists.{numbers_below}
use Rattle.model.specs.Track.{Track, zone_of, rev, start, leave}
use Rattle.model.specs.Position.{Position, at, is_free, Stands, outs, standing}
use Rattle.rules.specs.Collapse.{free_parts, turns, left}
use Rattle.bits.specs.Sets.{has_bit}

-- the points of home's part at the end of the collapse: home, what is joined to them over a free zone or a zone whose carrier turns,
-- and where a carrier starts that leaves at one of them
pub data Home (t : Track) (p : Position) : ℕ → Type 0 where
  itself : Home t p t.home
  over_free : (w : ℕ) → w < 2 * t.zones → is_free p (zone_of w) ≡ true → Home t p (start t w) → Home t p (leave t w)
  over_turning : (w : ℕ) → w < 2 * t.zones → turns t p (free_parts t p) (zone_of w) ≡ true → Home t p (start t w) → Home t p (leave t w)
  behind : (c w : ℕ) → Stands p c w → Home t p (leave t w) → Home t p (start t w)

-- the word whose bits are these points
pub record HomeWord (t : Track) (p : Position) (s : ℕ) : Type 0 where
  pub word : s < 2 ^ 64
  pub sound : (q : ℕ) → has_bit s q ≡ true → Home t p q
  pub whole : (q : ℕ) → Home t p q → has_bit s q ≡ true

-- the point where what stands in a zone leaves, from the ends
abbrev pub leaves_at : List ℕ → Position → ℕ → ℕ
leaves_at ends p z = get_or ends (rev (standing p z)) 0

-- the zones whose carriers leave at a point of s are free, and the others as they were
unfoldable pub left_position : List ℕ → ℕ → Position → Position
left_position ends s p = map (λ z. cond (has_bit s (leaves_at ends p z)) 0 (at p z)) (numbers_below (length p))

-- q is p without the carriers that leave in home's set, and those still out in q are the carriers that the collapse leaves of p
pub record Collapsed (t : Track) (p q : Position) : Type 0 where
  pub set : ℕ
  pub home : HomeWord t p set
  pub rest : q ≡ left_position t.ends set p
  pub carriers : outs q ≡ left t p

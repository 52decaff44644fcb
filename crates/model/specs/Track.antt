-- The track: what of a board never changes. Words name a zone with a direction, and every rule goes by the word.
use Rattle.std.specs.Prelude.{ℕ, ◌+◌, ◌-◌, ◌*◌, ◌/◌, ◌%◌, ◌<◌, List, ◌≡◌, get_or}
use Rattle.model.specs.declared.Head.{Head}
use Rattle.model.specs.declared.Track.{Track as TrackInCode}

-- points P, the home point, zones Z, and the two ends of each zone: end A of zone 0, its end B, end A of zone 1, ..
pub record Track : Type 0 where
  pub points : ℕ
  pub home : ℕ
  pub zones : ℕ
  pub ends : List ℕ

-- the track that the code's numbers and its list of ends are
abbrev pub track_of : Head → List ℕ → Track
track_of head ends = record { points = head.points; home = head.home; zones = head.zones; ends = ends }

-- the track that the code's struct holds
abbrev pub track_in : TrackInCode → Track
track_in t = track_of t.head t.ends.now

-- a word is 2 × zone + heading: its zone
abbrev pub zone_of : ℕ → ℕ
zone_of w = w / 2

-- heading 0 runs from A to B, 1 from B to A
abbrev pub heading_of : ℕ → ℕ
heading_of w = w % 2

-- the same zone, the other way
abbrev pub rev : ℕ → ℕ
rev w = 2 * (w / 2) + (1 - w % 2)

-- the point where a word starts: end A for heading 0, end B for 1
abbrev pub start : Track → ℕ → ℕ
start t w = get_or t.ends w 0

-- the point where a word leaves: it starts at one end and leaves at the other
abbrev pub leave : Track → ℕ → ℕ
leave t w = start t (rev w)

-- document 02's turning loop: a zone whose two ends meet at one point
abbrev pub TurningLoop : Track → ℕ → Type 0
TurningLoop t z = start t (2 * z) ≡ leave t (2 * z)

-- q is linked to p over zones that pass: what "hang together" and a free part of document 01 mean
pub data Linked (t : Track) (passes : ℕ → Type 0) : ℕ → ℕ → Type 0 where
  here : {p : ℕ} → Linked t passes p p
  over : {p q : ℕ} (w : ℕ) → w < 2 * t.zones → passes (zone_of w) → start t w ≡ p → Linked t passes (leave t w) q → Linked t passes p q

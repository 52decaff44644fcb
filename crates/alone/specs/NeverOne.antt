-- Request g of document 02: no board has exactly one blocked carrier. Said of every position laid on an accepted board's track, since positions that
-- were never a board's first are asked about too.
use Rattle.std.specs.Prelude.{ℕ, ◌*◌, ◌≤◌, ◌<◌, ◌≡◌, true, ◌⊎◌, ◌↔◌, length, eqb}
use Rattle.model.specs.Lists.{how_many}
use Rattle.model.specs.Track.{Track, Linked, leave}
use Rattle.model.specs.Position.{Position, at, Stands, Out}
use Rattle.model.specs.Labels.{label}
use Rattle.model.specs.Accepted.{HangsTogether, AcceptedTrack, Laid}
use Rattle.rules.specs.Routes.{Blocked}
use Rattle.rules.specs.Tries.{CanGo}
use Rattle.rules.specs.Collapse.{free_parts, loop_in}
use Rattle.alone.specs.HowManyBlocked.{OneBlocked, TwoBlocked}

-- point q has two zones or more; they are counted by their ends, so a turning loop counts twice
abbrev pub HasTwoZones : Track → ℕ → Type 0
HasTwoZones t q = 2 ≤ how_many (eqb q) t.ends

-- the two-zone rule, row 8 of document 01: each point but home has two zones or more
abbrev pub TwoZones : Track → Type 0
TwoZones t = (q : ℕ) → q < t.points → (q ≡ t.home → ⊥) → HasTwoZones t q

-- out, and every other carrier is gone
abbrev pub AloneOut : Position → ℕ → Type 0
AloneOut p c = Out p c × ((d : ℕ) → Out p d → d ≡ c)

-- "with every other carrier gone, the two-zone rule always gives a way home or a loop to turn in": in the free part where a carrier that is alone
-- out leaves its standing w there is home, or that part holds a loop. By rows 8 and 9; by row 8 alone it isn't so (rules/specs/TwoZoneRule.antt).
abbrev pub WayOrLoop : Type 0
WayOrLoop =
    (t : Track) → length t.ends ≡ 2 * t.zones → TwoZones t → HangsTogether t → (p : Position) → Laid t p → (c w : ℕ) → AloneOut p c → Stands p c w →
    Linked t (λ z. at p z ≡ 0) (leave t w) t.home ⊎ (let parts = free_parts t p in loop_in t p parts (label parts (leave t w)) ≡ true)

-- so it can go
abbrev pub AloneGoes : Type 0
AloneGoes = (t : Track) → AcceptedTrack t → (p : Position) → Laid t p → (c : ℕ) → AloneOut p c → CanGo t p c

-- it is not so that exactly one carrier is blocked
abbrev pub NeverOne : Type 0
NeverOne = (t : Track) → AcceptedTrack t → (p : Position) → Laid t p → OneBlocked t p → ⊥

-- so some carrier is blocked exactly where two or more are
abbrev pub SomeIsTwo : Type 0
SomeIsTwo = (t : Track) → AcceptedTrack t → (p : Position) → Laid t p → ((c : ℕ) × Blocked t p c) ↔ TwoBlocked t p

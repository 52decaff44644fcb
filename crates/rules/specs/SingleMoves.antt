-- A single move tested: the position that it leaves, or none where the rules forbid it. It stands beside `Allowed` of Tries.antt as `steps`
-- stands beside `Step`; proofs/MoveTested.antt ties them.
use Rattle.std.specs.Prelude.{ℕ, ◌+◌, ◌*◌, ◌≡◌, ◌↔◌, Bool, true, false, cond, not, ◌&&◌, set, ltb, eqb}
use Rattle.std.proofs.Math.Option.{Option, none, some}
use Rattle.model.specs.Track.{Track, zone_of, heading_of, start, leave}
use Rattle.model.specs.Position.{Position, is_free, Once, standing, retire}
use Rattle.rules.specs.Tries.{Move, into, home, Allowed}
use Rattle.rules.specs.Key.{leaves_home, zone_for}

-- the carrier that a move names
abbrev pub moves_who : Move → ℕ
moves_who (into c w) = c
moves_who (home c) = c

-- the zone of a carrier that is out; 0 is no carrier
abbrev pub zone_out : Position → ℕ → Option ℕ
zone_out p c = cond (eqb c 0) none (zone_for p c)

-- a carrier that leaves its zone at this point may go into word w: the home gate doesn't take it in, w is below 2 × Z, its zone is free, and it
-- starts at the point
abbrev pub may_go_from : Track → Position → ℕ → ℕ → Bool
may_go_from t p point w = not (eqb point t.home) && (ltb w (2 * t.zones) && (is_free p (zone_of w) && eqb (start t w) point))

-- the position left, where the test holds
abbrev pub left_if : Bool → Position → Option Position
left_if true q = some q
left_if false q = none

-- what a move leaves whose carrier stands in this zone
abbrev pub after_move_from : Track → Position → Move → Option ℕ → Option Position
after_move_from t p m none = none
after_move_from t p (into c w) (some z) = left_if (may_go_from t p (leave t (standing p z)) w) (set (retire c p) (zone_of w) (2 * c + heading_of w))
after_move_from t p (home c) (some z) = left_if (leaves_home t (standing p z)) (retire c p)

unfoldable pub after_move : Track → Position → Move → Option Position
after_move t p m = after_move_from t p m (zone_out p (moves_who m))

-- a single move as tested is one as stated, where no carrier stands in two zones: the test gives a position exactly where the rules allow the move
-- and lead there, and none exactly where they forbid it
abbrev pub MoveTested : Type 0
MoveTested = (t : Track) (p : Position) → Once p → (m : Move) (q : Position) → (after_move t p m ≡ some q) ↔ Allowed t p m q

abbrev pub ForbiddenTested : Type 0
ForbiddenTested = (t : Track) (p : Position) → Once p → (m : Move) → (after_move t p m ≡ none) ↔ ((q : Position) → Allowed t p m q → ⊥)

-- Single moves on boards: those that empty the turn with 6, though Definition 3 says blocked; and on board K those of a carrier that heads for the
-- home point, where the home gate forbids it every zone. Each move's conditions are closed numbers.
use Prim.Native.Nat.{ℕ, ◌+◌, ◌*◌, ◌<◌}
use mathlib.Core.List.{[], ◌∷◌}
use mathlib.Core.Path.{◌≡◌, refl, sym}
use native.Mathlib.Omega.{arith}
use lib.ListN.{length}
use lib.Dec.{T, ltb, ltb→lt, lit<}
use Rattle.model.specs.Track.{Track, zone_of, heading_of}
use Rattle.model.specs.Position.{Position, at, Stands}
use Rattle.model.specs.Layout.{stride}
use Rattle.model.specs.Reading.{track_said, position_said, carrier_in}
use Rattle.rules.specs.Tries.{into, Allowed, UngatedAllowed, enters, arrives, Moved, Moves}
use Rattle.rules.specs.Starred.{board_t, turn_with, turn_moves, TurnEmptied}
use Rattle.rules.specs.Table.{board_k}
use Rattle.rules.specs.HomeGate.{gate_moves}

-- a standing whose conditions compute
stands : (p : Position) (c w : ℕ) → T (ltb 0 c) → T (ltb (zone_of w) (length p)) → at p (zone_of w) ≡ 2 * c + heading_of w → Stands p c w
stands p c w n i h = record { numbered = λ e. let l : 0 < c = ltb→lt 0 c n in omega arith; inside = ltb→lt (zone_of w) (length p) i; holds = h }

pub turn_emptied : TurnEmptied
unfolding turn_with turn_moves track_said position_said stride carrier_in
turn_emptied =
    Moves.more (Moved.done (enters 0 (stands _ 5 0 tt tt refl) (λ e. omega arith) (lit< tt) refl refl))
    (Moves.more (Moved.done (enters 3 (stands _ 6 3 tt tt refl) (λ e. omega arith) (lit< tt) refl refl))
    (Moves.more (Moved.done (arrives 1 (stands _ 6 1 tt tt refl) refl))
    (Moves.more (Moved.done (enters 4 (stands _ 5 4 tt tt refl) (λ e. omega arith) (lit< tt) refl refl))
    (Moves.more (Moved.done (enters 3 (stands _ 5 3 tt tt refl) (λ e. omega arith) (lit< tt) refl refl))
    (Moves.more (Moved.done (arrives 1 (stands _ 5 1 tt tt refl) refl)) Moves.unmoved)))))

-- board K's track, and 7 in zone 1, heading for home
abbrev track_k : Track
track_k = track_said board_k

abbrev heading_home : Position
heading_home = 0 ∷ 15 ∷ []

-- from there it could go on into word 0
pub went_on_before : UngatedAllowed track_k heading_home (into 7 0) (14 ∷ 0 ∷ [])
unfolding board_k board_t track_said stride
went_on_before = enters 3 (stands _ 7 3 tt tt refl) tt (lit< tt) refl refl

pub goes_on_no_more : (q : Position) → Allowed track_k heading_home (into 7 0) q → ⊥
unfolding board_k board_t track_said stride
goes_on_no_more q (enters u s elsewhere below free touches) = elsewhere (sym touches)

pub gate_moves_lem : Moves track_k (position_said board_k) gate_moves (0 ∷ 0 ∷ [])
unfolding board_k board_t gate_moves track_said position_said stride carrier_in
gate_moves_lem =
    Moves.more (Moved.done (enters 0 (stands _ 7 0 tt tt refl) (λ e. omega arith) (lit< tt) refl refl))
    (Moves.more (Moved.forbidden goes_on_no_more)
    (Moves.more (Moved.done (arrives 3 (stands _ 7 3 tt tt refl) refl)) Moves.unmoved))

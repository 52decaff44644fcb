-- Laws of moves carried out in turn: they lead to one position and stop at one move; no list is both carried out whole and stopped; and what is
-- carried out is a list of single moves.
-- By what one allowed move leaves, and by induction over the list.
use Prim.Native.Nat.{ℕ, suc}
use mathlib.Core.List.{List}
use mathlib.Core.Path.{◌≡◌, refl, sym, ap, subst}
use lib.ListN.{take}
use Rattle.model.specs.Track.{Track}
use Rattle.model.specs.Position.{Position}
use Rattle.rules.specs.Tries.{Move, Allowed, Moved, Moves}
use Rattle.order.proofs.AllMoves.{allowed_one}
use Rattle.movelog.specs.CarriedOut.{CarriedOut, none_left, next, StopsAfter, here, later}

module _ {t : Track} where
  pub carried_moves : {p q : Position} {ms : List Move} → CarriedOut t p ms q → Moves t p ms q
  carried_moves none_left = Moves.unmoved
  carried_moves (next a c) = Moves.more (Moved.done a) (carried_moves c)

  -- the moves before the stop
  pub stops_carried : {p q : Position} {ms : List Move} {n : ℕ} → StopsAfter t p ms n q → CarriedOut t p (take n ms) q
  stops_carried (here f) = none_left
  stops_carried (later a s) = next a (stops_carried s)

  -- after one move there is one position to go on from
  from_one : {p q s : Position} {m : Move} (P : Position → Type 0) → Allowed t p m q → Allowed t p m s → P s → P q
  from_one P a b = subst P (sym (allowed_one a b))

  pub carried_one : {p q r : Position} {ms : List Move} → CarriedOut t p ms q → CarriedOut t p ms r → q ≡ r
  carried_one none_left none_left = refl
  carried_one {r = r} (next a c) (next {ms = ms} b d) = carried_one c (from_one (λ x. CarriedOut t x ms r) a b d)

  pub stops_one : {p q r : Position} {ms : List Move} {n k : ℕ} → StopsAfter t p ms n q → StopsAfter t p ms k r → (n ≡ k) × (q ≡ r)
  stops_one (here f) (here g) = (refl, refl)
  stops_one (here f) (later b d) = absurd (f _ b)
  stops_one (later a c) (here g) = absurd (g _ a)
  stops_one {r = r} (later a c) (later {ms = ms} {n = n} b d) = let e = stops_one c (from_one (λ x. StopsAfter t x ms n r) a b d) in (ap suc e.0, e.1)

  pub carried_or_stops : {p q r : Position} {ms : List Move} {n : ℕ} → CarriedOut t p ms r → StopsAfter t p ms n q → ⊥
  carried_or_stops none_left x = elim x [ ]
  carried_or_stops (next a c) (here f) = f _ a
  carried_or_stops {q = q} (next a c) (later {ms = ms} {n = n} b s) = carried_or_stops c (from_one (λ x. StopsAfter t x ms n q) a b s)

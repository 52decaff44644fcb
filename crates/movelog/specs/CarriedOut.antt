-- Single moves carried out in turn, in relations alone: each as the rules allow, up to one that they forbid. (`Moves` of the rules passes over a
-- forbidden one.)
use Rattle.std.specs.Prelude.{ℕ, suc, List, [], ◌∷◌}
use Rattle.model.specs.Track.{Track}
use Rattle.model.specs.Position.{Position}
use Rattle.rules.specs.Tries.{Move, Allowed}

-- every move of the list is allowed in its turn, and together they lead from the first position to the last
pub data CarriedOut (t : Track) : Position → List Move → Position → Type 0 where
  none_left : {p : Position} → CarriedOut t p [] p
  next : {p q r : Position} {m : Move} {ms : List Move} → Allowed t p m q → CarriedOut t q ms r → CarriedOut t p (m ∷ ms) r

-- no case of `Allowed` allows the move
abbrev pub Forbidden : Track → Position → Move → Type 0
Forbidden t p m = (q : Position) → Allowed t p m q → ⊥

-- some move of the list is forbidden at its turn: as many moves as the number says are allowed in their turn and lead from the first position to
-- the last, and the next one is forbidden there
pub data StopsAfter (t : Track) : Position → List Move → ℕ → Position → Type 0 where
  here : {p : Position} {m : Move} {ms : List Move} → Forbidden t p m → StopsAfter t p (m ∷ ms) 0 p
  later : {p q r : Position} {m : Move} {ms : List Move} {n : ℕ} → Allowed t p m q → StopsAfter t q ms n r → StopsAfter t p (m ∷ ms) (suc n) r

-- The key's order as document 01 says it: while any can go, the lowest-numbered carrier that can leaves next, by its least route.
-- Least is: no route of it has fewer words, and it is smaller at the first word where they differ than any other of as many.
use Rattle.std.specs.Prelude.{ℕ, ◌≤◌, ◌<◌, List, [], ◌∷◌, ◌≡◌, ◌⊎◌, length}
use Rattle.model.specs.Track.{Track}
use Rattle.model.specs.Position.{Position, retire}
use Rattle.rules.specs.Routes.{Route, Entry}
use Rattle.rules.specs.Tries.{CanGo, NoneCanGo}
use Rattle.least.specs.Ways.{Before}

pub record Least (t : Track) (p : Position) (c : ℕ) (r : List ℕ) : Type 0 where
  pub goes : Route t p c r
  pub fewest : (s : List ℕ) → Route t p c s → length r ≤ length s
  pub smallest : (s : List ℕ) → Route t p c s → length s ≡ length r → (r ≡ s) ⊎ Before r s

-- these entries in turn, up to a position in which none can go
pub data LowestFirst (t : Track) : Position → List Entry → Position → Type 0 where
  ended : {p : Position} → NoneCanGo t p → LowestFirst t p [] p
  leaves :
      {p q : Position} {e : Entry} {es : List Entry} → ((d : ℕ) → d < e.carrier → CanGo t p d → ⊥) → Least t p e.carrier e.words →
      LowestFirst t (retire e.carrier p) es q → LowestFirst t p (e ∷ es) q

-- the key fixes one plan: from a position no two lists of entries, and no two last positions, are in its order
abbrev pub OnePlan : Type 0
OnePlan = (t : Track) (p q r : Position) (es fs : List Entry) → LowestFirst t p es q → LowestFirst t p fs r → (es ≡ fs) × (q ≡ r)

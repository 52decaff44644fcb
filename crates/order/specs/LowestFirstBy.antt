-- The key's order by any rule for one step, as LowestFirst.antt has it by the moving rule.
use Rattle.std.specs.Prelude.{ℕ, ◌≤◌, ◌<◌, List, [], ◌∷◌, ◌≡◌, ◌⊎◌, length}
use Rattle.model.specs.Track.{Track}
use Rattle.model.specs.Position.{Position, retire}
use Rattle.rules.specs.Routes.{StepRule, RouteBy, Entry}
use Rattle.rules.specs.Tries.{CanGoBy}
use Rattle.least.specs.Ways.{Before}

module _ (step : StepRule) where
  pub record LeastBy (t : Track) (p : Position) (c : ℕ) (r : List ℕ) : Type 0 where
    pub goes : RouteBy step t p c r
    pub fewest : (s : List ℕ) → RouteBy step t p c s → length r ≤ length s
    pub smallest : (s : List ℕ) → RouteBy step t p c s → length s ≡ length r → (r ≡ s) ⊎ Before r s

  -- these entries in turn, up to a position in which none can go
  pub data LowestFirstBy (t : Track) : Position → List Entry → Position → Type 0 where
    ended : {p : Position} → ((c : ℕ) → CanGoBy step t p c → ⊥) → LowestFirstBy t p [] p
    leaves :
        {p q : Position} {e : Entry} {es : List Entry} → ((d : ℕ) → d < e.carrier → CanGoBy step t p d → ⊥) → LeastBy t p e.carrier e.words →
        LowestFirstBy t (retire e.carrier p) es q → LowestFirstBy t p (e ∷ es) q

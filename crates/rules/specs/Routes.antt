-- How a carrier moves: the step rule, routes, sequences of retirements; ordered and blocked. Definition 3 as document 01 reads it, with the home
-- gate of document 02 (request d). The older moving rule, without the gate, is a part of it, and what doesn't turn on the gate is said once.
use Rattle.std.specs.Prelude.{ℕ, ◌*◌, ◌<◌, ◌≡◌, ◌⊎◌}
use mathlib.Core.List.{List, [], ◌∷◌, map, Memᴰ}
use Rattle.model.specs.Track.{Track, zone_of, start, leave}
use Rattle.model.specs.Position.{Position, at, carrier_of, Stands, Out, retire}

-- the older moving rule, from word w to word v: v starts at the point where w left, is another zone than w's, and holds no other carrier that
-- is out. Its own first zone is free to a carrier once left.
pub record UngatedStep (t : Track) (p : Position) (c w v : ℕ) : Type 0 where
  pub word : v < 2 * t.zones
  pub touches : start t v ≡ leave t w
  pub another : zone_of v ≡ zone_of w → ⊥
  pub clear : (at p (zone_of v) ≡ 0) ⊎ (carrier_of (at p (zone_of v)) ≡ c)

-- the home gate takes in every arrival: a carrier goes on only from a word that leaves elsewhere than at the home point
abbrev pub LeavesElsewhere : Track → ℕ → Type 0
LeavesElsewhere t w = leave t w ≡ t.home → ⊥

-- the moving rule: the older one with the home gate
pub record Step (t : Track) (p : Position) (c w v : ℕ) : Type 0 where
  pub ungated : UngatedStep t p c w v
  pub gate : LeavesElsewhere t w

-- a carrier with its route
pub record Entry : Type 0 where
  pub carrier : ℕ
  pub words : List ℕ

-- the carriers that leave, in turn
abbrev pub leaving : List Entry → List ℕ
leaving es = map (λ e. e.carrier) es

-- nobody is out
abbrev pub Empty : Position → Type 0
Empty p = (c : ℕ) → Out p c → ⊥

-- a rule for one step of a carrier from one word to another
abbrev pub StepRule : Type 1
StepRule = Track → Position → ℕ → ℕ → ℕ → Type 0

-- By any rule for one step. By the older one a route may run through the home point earlier and go on.
module _ (step : StepRule) where
  -- from word w on by these words, the last of which leaves at the home point
  pub data OnwardBy (t : Track) (p : Position) (c : ℕ) : ℕ → List ℕ → Type 0 where
    arrives : {w : ℕ} → leave t w ≡ t.home → OnwardBy t p c w []
    goes : {w v : ℕ} {vs : List ℕ} → step t p c w v → OnwardBy t p c v vs → OnwardBy t p c w (v ∷ vs)

  -- a route of carrier c: its standing first
  pub data RouteBy (t : Track) (p : Position) (c : ℕ) : List ℕ → Type 0 where
    route : {w : ℕ} {vs : List ℕ} → Stands p c w → OnwardBy t p c w vs → RouteBy t p c (w ∷ vs)

  -- a sequence of retirements: each goes home by its route while the later ones stand still and the earlier ones are home
  pub data RetiresBy (t : Track) : Position → List Entry → Position → Type 0 where
    done : {p : Position} → RetiresBy t p [] p
    next : {p q : Position} {e : Entry} {es : List Entry} → RouteBy t p e.carrier e.words → RetiresBy t (retire e.carrier p) es q → RetiresBy t p (e ∷ es) q

  -- some order of all carriers out gives each a route; with none out it is ordered
  abbrev pub OrderedBy : Track → Position → Type 0
  OrderedBy t p = (es : List Entry) × (q : Position) × RetiresBy t p es q × Empty q

  -- out, and in no sequence of retirements
  abbrev pub BlockedBy : Track → Position → ℕ → Type 0
  BlockedBy t p c = Out p c × ((es : List Entry) (q : Position) → RetiresBy t p es q → Memᴰ c (leaving es) → ⊥)

-- By the moving rule.

abbrev pub Onward : Track → Position → ℕ → ℕ → List ℕ → Type 0
Onward = OnwardBy Step

abbrev pub Route : Track → Position → ℕ → List ℕ → Type 0
Route = RouteBy Step

abbrev pub Retires : Track → Position → List Entry → Position → Type 0
Retires = RetiresBy Step

abbrev pub Ordered : Track → Position → Type 0
Ordered = OrderedBy Step

abbrev pub Blocked : Track → Position → ℕ → Type 0
Blocked = BlockedBy Step

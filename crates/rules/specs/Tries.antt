-- Lists of tries and of single moves, refused and forbidden ones included. They name any numbers whatever.
use Rattle.std.specs.Prelude.{ℕ, ◌+◌, ◌*◌, ◌<◌, List, [], ◌∷◌, ◌≡◌, set}
use Rattle.model.specs.Track.{Track, zone_of, heading_of, start, leave}
use Rattle.model.specs.Position.{Position, at, Stands, retire}
use Rattle.rules.specs.Routes.{LeavesElsewhere, Step, StepRule, RouteBy}

-- carrier c can go home while the others out stand still: by any rule for one step, and by the moving rule
abbrev pub CanGoBy : StepRule → Track → Position → ℕ → Type 0
CanGoBy step t p c = (r : List ℕ) × RouteBy step t p c r

abbrev pub CanGo : Track → Position → ℕ → Type 0
CanGo = CanGoBy Step

-- a try names a carrier: it goes home and its zone is free, or it is refused and nothing changes
pub data Try (t : Track) (p : Position) (c : ℕ) : Position → Type 0 where
  went : CanGo t p c → Try t p c (retire c p)
  refused : (CanGo t p c → ⊥) → Try t p c p

pub data Tries (t : Track) : Position → List ℕ → Position → Type 0 where
  untried : {p : Position} → Tries t p [] p
  more : {p q r : Position} {c : ℕ} {cs : List ℕ} → Try t p c q → Tries t q cs r → Tries t p (c ∷ cs) r

-- every try would be refused
abbrev pub NoneCanGo : Track → Position → Type 0
NoneCanGo t p = (c : ℕ) → CanGo t p c → ⊥

-- a single move names a carrier and a word, or a carrier and home
pub data Move : Type 0 where
  into : ℕ → ℕ → Move
  home : ℕ → Move

-- what a move that the rules allow leaves, where `asked` must hold of the word that a carrier goes on from into another; a move with no case here
-- is forbidden
pub data AllowedFrom (asked : Track → ℕ → Type 0) (t : Track) (p : Position) : Move → Position → Type 0 where
  enters : {c w : ℕ} (u : ℕ) → Stands p c u → asked t u → w < 2 * t.zones → at p (zone_of w) ≡ 0 → start t w ≡ leave t u
      → AllowedFrom asked t p (into c w) (set (retire c p) (zone_of w) (2 * c + heading_of w))
  arrives : {c : ℕ} (u : ℕ) → Stands p c u → leave t u ≡ t.home → AllowedFrom asked t p (home c) (retire c p)

-- the home gate: a carrier heading for the home point goes only into home
abbrev pub Allowed : Track → Position → Move → Position → Type 0
Allowed = AllowedFrom LeavesElsewhere

-- by the older rule nothing is asked
abbrev pub UngatedAllowed : Track → Position → Move → Position → Type 0
UngatedAllowed = AllowedFrom (λ t u. Unit {0})

-- a move: as the rules allow, or forbidden, and nothing changes
pub data Moved (t : Track) (p : Position) (m : Move) : Position → Type 0 where
  done : {q : Position} → Allowed t p m q → Moved t p m q
  forbidden : ((q : Position) → Allowed t p m q → ⊥) → Moved t p m p

pub data Moves (t : Track) : Position → List Move → Position → Type 0 where
  unmoved : {p : Position} → Moves t p [] p
  more : {p q r : Position} {m : Move} {ms : List Move} → Moved t p m q → Moves t q ms r → Moves t p (m ∷ ms) r

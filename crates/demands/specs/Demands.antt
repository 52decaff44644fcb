-- Demands 2 and 3 in the words of document 01, of the answers that the operations give on an accepted board.
-- They speak of routes, orders, tries and moves as relations; no search has to be believed to read them.
use Rattle.std.specs.Prelude.{ℕ, ◌*◌, ◌≤◌, ◌<◌, ◌≡◌, false, ◌⊎◌, ◌↔◌, length}
use mathlib.Core.List.{List, [], Memᴰ}
use Rattle.model.specs.Lists.{Ascending}
use Rattle.model.specs.Track.{Track}
use Rattle.model.specs.Position.{Position, Stands, Out, is_free}
use Rattle.model.specs.Accepted.{Laid}
use Rattle.rules.specs.Routes.{Entry, Retires, Empty, Ordered, Blocked}
use Rattle.rules.specs.Tries.{NoneCanGo, Tries, Move, Moves}
use Rattle.rules.specs.Key.{run, named, plan_words, verdict_of}
use Rattle.order.specs.LowestFirst.{LowestFirst}

-- demand 2, of a key with this verdict, these words of the plan and these numbers of the list
pub record KeyRight (t : Track) (p : Position) (verdict : ℕ) (plan list : List ℕ) : Type 0 where
  -- the plan sends carriers home in turn, each by its route, until none can go
  pub entries : List Entry
  pub last : Position
  pub written : plan ≡ plan_words entries
  pub retires : Retires t p entries last
  -- at each turn the lowest-numbered carrier that can go leaves, by its least route
  pub lowest : LowestFirst t p entries last
  -- no route has more than 2 × Z words
  pub short : (e : Entry) → Memᴰ e entries → length e.words ≤ 2 * t.zones
  -- "ordered" is said exactly where some order satisfies Definition 3, and then this plan gives one
  pub ordered : (verdict ≡ 0) ↔ Ordered t p
  pub order_given : verdict ≡ 0 → Empty last
  -- with verdict 0 there are none named
  pub none_named : verdict ≡ 0 → list ≡ []
  -- 0 exactly where none is blocked, 20 exactly where some carrier is, and nothing else is said
  pub none_blocked : (verdict ≡ 0) ↔ ((c : ℕ) → Blocked t p c → ⊥)
  pub some_blocked : (verdict ≡ 20) ↔ ((c : ℕ) × Blocked t p c)
  pub verdicts : (verdict ≡ 0) ⊎ (verdict ≡ 20)
  -- the list is exactly the blocked carriers, ascending
  pub blocked : (c : ℕ) → Memᴰ c list ↔ Blocked t p c
  pub ascending : Ascending list

-- every zone is held
abbrev pub Full : Track → Position → Type 0
Full t p = (z : ℕ) → z < t.zones → is_free p z ≡ false

-- demand 3, of the named carriers
pub record NamedRight (t : Track) (p : Position) (list : List ℕ) : Type 0 where
  -- every list of tries, of any numbers, leads to one position
  pub tried : (cs : List ℕ) → (q : Position) × Tries t p cs q
  pub tried_once : (cs : List ℕ) (q r : Position) → Tries t p cs q → Tries t p cs r → q ≡ r
  -- after it each named carrier is still out, and if then none can go, only the named are
  pub left_out : (cs : List ℕ) (q : Position) → Tries t p cs q → (c : ℕ) → Memᴰ c list → Out q c
  pub left_out_only : (cs : List ℕ) (q : Position) → Tries t p cs q → NoneCanGo t q → (c : ℕ) → Out q c → Memᴰ c list
  -- and tries can always go on until none can go
  pub ends : (cs : List ℕ) (q : Position) → Tries t p cs q → (ds : List ℕ) × (r : Position) × Tries t q ds r × NoneCanGo t r
  -- every list of single moves, of any numbers, leads to one position
  pub moved : (ms : List Move) → (q : Position) × Moves t p ms q
  pub moved_once : (ms : List Move) (q r : Position) → Moves t p ms q → Moves t p ms r → q ≡ r
  -- on a board with every zone held, after it each named carrier stands in its zone with its heading
  pub still : Full t p → (ms : List Move) (q : Position) → Moves t p ms q → (c w : ℕ) → Memᴰ c list → Stands p c w → Stands q c w

-- Over the inner form (request i of document 02), so of positions too that were never a board's first.

-- the key of every position laid on a track meets demand 2
abbrev pub KeyAlwaysRight : Type 0
KeyAlwaysRight = (t : Track) (p : Position) → Laid t p → KeyRight t p (verdict_of (named t p)) (plan_words (run t p).plan) (named t p)

-- its named carriers meet demand 3; they are those that the collapse leaves (`CollapseSame` of `blocking`)
abbrev pub NamedAlwaysRight : Type 0
NamedAlwaysRight = (t : Track) (p : Position) → Laid t p → NamedRight t p (named t p)

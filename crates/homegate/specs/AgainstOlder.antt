-- Request d of document 02: what the home gate changes against the older moving rule, and what it doesn't.
use Rattle.std.specs.Prelude.{ℕ, ◌+◌, ◌*◌, ◌≤◌, List, [], ◌∷◌, ◌++◌, ◌≡◌, Bool, true, false, not, ◌&&◌, ◌⊎◌, ◌↔◌, length, take}
use Rattle.model.specs.Track.{Track, leave}
use Rattle.model.specs.Position.{Position, Stands, Out, Once, outs}
use Rattle.model.specs.Reading.{refusal, track_said, position_said}
use Rattle.rules.specs.Routes.{UngatedStep, LeavesElsewhere, Entry, RouteBy, RetiresBy, OrderedBy, BlockedBy, Route, Ordered, Blocked}
use Rattle.rules.specs.Tries.{CanGoBy, CanGo, into, home, Allowed, UngatedAllowed}
use Rattle.rules.specs.Key.{leaves_home, ungated_steps, plan_words, KeyAnswer, key_of, key_of_by}
use Rattle.rules.specs.Sheet.{by_rules, by_rules_by, mark_entry, mark_of, mark_of_by}
use Rattle.order.specs.LowestFirst.{LowestFirst}
use Rattle.order.specs.LowestFirstBy.{LowestFirstBy}

-- no board's verdict, plan or blocked list differs: for every list of bytes and every room lent the older rule has the same key. (The search count
-- is another matter: nothing is reached past home now.)
abbrev pub KeySame : Type 0
KeySame = (b : List ℕ) (planRoom listRoom : ℕ) → key_of_by ungated_steps b planRoom listRoom ≡ key_of b planRoom listRoom

-- no board's plan differs over the relations either: entries are in the key's order, at each turn the lowest-numbered carrier that can go by its
-- least route, exactly if they are so by the routes of the older rule. With KeySame this is the older key's plan.
abbrev pub OlderPlan : Type 0
OlderPlan = (t : Track) (p q : Position) (es : List Entry) → LowestFirst t p es q ↔ LowestFirstBy UngatedStep t p es q

-- a key's answer by the older rule: its plan is in that order, up to a position in which none can go, and its list has the carriers out there
pub record InOlderOrder (t : Track) (p : Position) (k : KeyAnswer) : Type 0 where
  pub entries : List Entry
  pub last : Position
  pub written : k.plan ≡ plan_words entries
  pub lowest : LowestFirstBy UngatedStep t p entries last
  pub left : k.list ≡ outs last

-- so is what the older key writes, on every board and with any room that meet none of 1 to 11
abbrev pub OlderKey : Type 0
OlderKey =
    (b : List ℕ) (planRoom listRoom : ℕ) → refusal b ≡ 0 → let t = track_said b in let p = position_said b in length (outs p) * (2 + 2 * t.zones) ≤ planRoom →
    length (outs p) ≤ listRoom → InOlderOrder t p (key_of_by ungated_steps b planRoom listRoom)

-- a word of the route that leaves at the home point is its last
abbrev pub home_is_last : Track → List ℕ → Bool
home_is_last t [] = true
home_is_last t (w ∷ []) = true
home_is_last t (w ∷ v ∷ vs) = not (leaves_home t w) && home_is_last t (v ∷ vs)

-- over the relations alone: who can go home, whether the position is ordered, and who is blocked
pub record SameOrders (t : Track) (p : Position) : Type 0 where
  pub can_go : (c : ℕ) → CanGoBy UngatedStep t p c ↔ CanGo t p c
  pub ordered : OrderedBy UngatedStep t p ↔ Ordered t p
  pub blocked : (c : ℕ) → BlockedBy UngatedStep t p c ↔ Blocked t p c
  -- the routes are those of the older rule in which a word that leaves at home is the last
  pub routes : (c : ℕ) (r : List ℕ) → Route t p c r ↔ (RouteBy UngatedStep t p c r × (home_is_last t r ≡ true))

-- on every track and in every position
abbrev pub OrdersSame : Type 0
OrdersSame = (t : Track) (p : Position) → SameOrders t p

-- on a sheet a route is by the rules exactly if it is by the older ones and doesn't run on through home
abbrev pub RulesGated : Type 0
RulesGated = (t : Track) (p : Position) (c : ℕ) (r : List ℕ) → by_rules t p c r ≡ (by_rules_by ungated_steps t p c r && home_is_last t r)

-- a sheet that runs on gets 32: at an entry that has its count of words, of a carrier that is out, whatever stands after it
abbrev pub RunsOnGets32 : Type 0
RunsOnGets32 =
    (t : Track) (p : Position) (c k : ℕ) (ws : List ℕ) (rest : Position → List ℕ → ℕ) → (k ≡ 0 → ⊥) → k ≤ length ws → Out p c → home_is_last t (take k ws) ≡ false →
    mark_entry t p (c ∷ k ∷ ws) rest ≡ 32

-- of the whole sheet, on every accepted board: the entries before are routes home by the older rule, one after the other, and the next has its
-- count of words, a carrier that is still out, and a word that leaves at home before its last. (Where an entry before runs on, the mark is 32 at it.)
abbrev pub SheetRunsOn : Type 0
SheetRunsOn =
    (b : List ℕ) → refusal b ≡ 0 → let t = track_said b in (es : List Entry) (q : Position) → RetiresBy UngatedStep t (position_said b) es q →
    (c k : ℕ) (ws : List ℕ) → (k ≡ 0 → ⊥) → k ≤ length ws → Out q c → home_is_last t (take k ws) ≡ false → mark_of b (0 ∷ (plan_words es ++ (c ∷ k ∷ ws))) ≡ 32

-- the mark is the older rule's or 32; a sheet that passes passed
pub record MarkOr32 (b sheet : List ℕ) : Type 0 where
  pub mark : (mark_of b sheet ≡ mark_of_by ungated_steps b sheet) ⊎ (mark_of b sheet ≡ 32)
  pub passed : mark_of b sheet ≡ 0 → mark_of_by ungated_steps b sheet ≡ 0

-- for every list of bytes and every sheet
abbrev pub MarksOr32 : Type 0
MarksOr32 = (b sheet : List ℕ) → MarkOr32 b sheet

-- single moves: one that heads for the home point goes only into home, and all else is as it was
pub record GateInMoves (t : Track) (p : Position) : Type 0 where
  pub shut : (c u w : ℕ) (q : Position) → Stands p c u → leave t u ≡ t.home → Allowed t p (into c w) q → ⊥
  pub elsewhere : (c u w : ℕ) (q : Position) → Stands p c u → LeavesElsewhere t u → Allowed t p (into c w) q ↔ UngatedAllowed t p (into c w) q
  pub into_home : (c : ℕ) (q : Position) → Allowed t p (home c) q ↔ UngatedAllowed t p (home c) q

-- in every position in which no carrier stands in two zones
abbrev pub MovesGated : Type 0
MovesGated = (t : Track) (p : Position) → Once p → GateInMoves t p

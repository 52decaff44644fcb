-- What the search count counts (request j of document 02), in relations alone: for each try of each round the words that the carrier reaches.
-- No search has to be believed to read it. The last statements tie it to the definition.
use Rattle.std.specs.Prelude.{ℕ, ◌+◌, ◌*◌, ◌≤◌, ◌≡◌, ◌↔◌, length}
use mathlib.Core.List.{List, [], ◌∷◌, ◌++◌, Memᴰ}
use Rattle.std.proofs.Math.Option.{Option, none, some}
use Rattle.model.specs.Lists.{Ascending}
use Rattle.model.specs.Track.{Track}
use Rattle.model.specs.Position.{Position, Stands, Out, retire, outs}
use Rattle.model.specs.Accepted.{Laid}
use Rattle.rules.specs.Routes.{Step}
use Rattle.rules.specs.Tries.{CanGo}
use Rattle.rules.specs.SearchCount.{sum_of_lengths, reached, searched}

-- carrier c reaches word v from word w while the others stand still: it is there, or takes a step and reaches v from there. The home gate is in the
-- step, so nothing is reached past a word that leaves at home.
pub data Reaches (t : Track) (p : Position) (c : ℕ) : ℕ → ℕ → Type 0 where
  there : {w : ℕ} → Reaches t p c w w
  steps_on : {w u v : ℕ} → Step t p c w u → Reaches t p c u v → Reaches t p c w v

-- exactly the words that carrier c reaches from its standing; each stands once in an ascending list
pub record Reached (t : Track) (p : Position) (c : ℕ) (ws : List ℕ) : Type 0 where
  pub once : Ascending ws
  pub exactly : (v : ℕ) → Memᴰ v ws ↔ ((w : ℕ) × Stands p c w × Reaches t p c w v)

-- one round: these carriers are tried in turn, up to and with the one that goes, or all if none does; with the words reached in each try
pub data Round (t : Track) (p : Position) : List ℕ → List (List ℕ) → Option ℕ → Type 0 where
  all_tried : Round t p [] [] none
  goes : {c : ℕ} {cs ws : List ℕ} → Reached t p c ws → CanGo t p c → Round t p (c ∷ cs) (ws ∷ []) (some c)
  stays : {c : ℕ} {cs ws : List ℕ} {wss : List (List ℕ)} {o : Option ℕ} → Reached t p c ws → (CanGo t p c → ⊥) → Round t p cs wss o → Round t p (c ∷ cs) (ws ∷ wss) o

-- the carriers out, lowest first
pub record LowestOut (p : Position) (cs : List ℕ) : Type 0 where
  pub ascending : Ascending cs
  pub out : (c : ℕ) → Memᴰ c cs ↔ Out p c

-- round after round, who goes being taken off, up to and with the round in which none goes
pub data Rounds (t : Track) : Position → List (List ℕ) → Type 0 where
  last : {p : Position} {cs : List ℕ} {wss : List (List ℕ)} → LowestOut p cs → Round t p cs wss none → Rounds t p wss
  next :
      {p : Position} {cs : List ℕ} {c : ℕ} {wss vss : List (List ℕ)} → LowestOut p cs → Round t p cs wss (some c) →
      Rounds t (retire c p) vss → Rounds t p (wss ++ vss)

-- n is the search count: the sum of how many words are reached in each try
pub record Counted (t : Track) (p : Position) (n : ℕ) : Type 0 where
  pub tries : List (List ℕ)
  pub rounds : Rounds t p tries
  pub summed : n ≡ sum_of_lengths tries

-- a word below 2 × Z is found exactly where it is reached
abbrev pub FoundIsReached : Type 0
FoundIsReached = (t : Track) (p : Position) → Laid t p → (c w v : ℕ) → Stands p c w → Memᴰ v (reached t p c) ↔ Reaches t p c w v

-- at most Z × C × (C + 1) where C carriers are out
abbrev pub most_searched : Track → Position → ℕ
most_searched t p = t.zones * length (outs p) * (length (outs p) + 1)

-- of the definition's count
pub record SearchCount (t : Track) (p : Position) : Type 0 where
  pub counted : Counted t p (searched t p)
  -- and no other number is
  pub only : (n : ℕ) → Counted t p n → n ≡ searched t p
  pub most : searched t p ≤ most_searched t p

-- on every track with a position laid on it
abbrev pub CountsRight : Type 0
CountsRight = (t : Track) (p : Position) → Laid t p → SearchCount t p

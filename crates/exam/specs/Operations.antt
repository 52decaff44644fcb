-- What the public operations promise, for every input whatever: the results and the final contents as equations with the rules'
-- definitions, and demands 2 and 3 on every accepted board. b are the board's bytes; plan and list are what was lent, plan' and list' at exit.
use Rattle.std.specs.Prelude.{ℕ, ◌≤◌, ◌≡◌, ◌↔◌, length, take}
use mathlib.Core.List.{List, Memᴰ}
use Rattle.model.specs.Lists.{Ascending}
use Rattle.model.specs.Reading.{refusal, track_said, position_said}
use Rattle.rules.specs.Routes.{Blocked}
use Rattle.rules.specs.Key.{key_of}
use Rattle.rules.specs.Collapse.{collapse_of}
use Rattle.rules.specs.Sheet.{Right, mark_of}
use Rattle.searchcount.specs.Rounds.{Counted, most_searched}
use Rattle.exam.specs.Parsed.{KeyGiven, searched_of, CollapseGiven}
use Rattle.alone.specs.HowManyBlocked.{OneBlocked, TwoBlocked}
use Rattle.demands.specs.Demands.{KeyRight, NamedRight}

-- the key meets none of 1 to 11 with this verdict
pub record Drawn (b : List ℕ) (verdict : ℕ) : Type 0 where
  pub accepted : refusal b ≡ 0
  pub not_10 : verdict ≡ 10 → ⊥
  pub not_11 : verdict ≡ 11 → ⊥

pub record KeyPromise (b plan list : List ℕ) (verdict planned listed searched : ℕ) (plan' list' : List ℕ) : Type 0 where
  -- result and contents: on 1 to 11, tried in rising order, both lengths are 0 and nothing is written
  pub given : KeyGiven (key_of b (length plan) (length list)) plan list verdict planned listed plan' list'
  -- demand 2, of what is written
  pub right : Drawn b verdict → KeyRight (track_said b) (position_said b) verdict (take planned plan') (take listed list')
  -- demand 3, of the named carriers
  pub named : Drawn b verdict → NamedRight (track_said b) (position_said b) (take listed list')
  -- on no accepted board is exactly one carrier blocked, so 20 is said exactly where two or more are
  pub never_one : refusal b ≡ 0 → OneBlocked (track_said b) (position_said b) → ⊥
  pub two_blocked : Drawn b verdict → (verdict ≡ 20) ↔ TwoBlocked (track_said b) (position_said b)
  -- the search count: 0 on 1 to 11, else the words reached in each try of the key's rounds, and never more than Z × C × (C + 1)
  pub searched_is : searched ≡ searched_of (track_said b) (position_said b) verdict
  pub counted : Drawn b verdict → Counted (track_said b) (position_said b) searched
  pub most : searched ≤ most_searched (track_said b) (position_said b)

pub record CollapsePromise (b list : List ℕ) (number listed : ℕ) (list' : List ℕ) : Type 0 where
  pub given : CollapseGiven (collapse_of b (length list)) list number listed list'
  -- where it gives 0 it leaves the key's list, number for number, whenever the key meets neither 10 nor 11; and the count is that list's length
  pub same : number ≡ 0 → (planRoom listRoom : ℕ) → Drawn b (key_of b planRoom listRoom).verdict → take listed list' ≡ (key_of b planRoom listRoom).list
  pub same_count : number ≡ 0 → (planRoom listRoom : ℕ) → Drawn b (key_of b planRoom listRoom).verdict → listed ≡ length (key_of b planRoom listRoom).list
  -- that is the blocked carriers, ascending, and demand 3 holds of them
  pub blocked : number ≡ 0 → (c : ℕ) → Memᴰ c (take listed list') ↔ Blocked (track_said b) (position_said b) c
  pub ascending : number ≡ 0 → Ascending (take listed list')
  pub named : number ≡ 0 → NamedRight (track_said b) (position_said b) (take listed list')

pub record MarkPromise (b sheet : List ℕ) (number : ℕ) : Type 0 where
  pub number_is : number ≡ mark_of b sheet
  -- demand 2: on an accepted board a sheet passes exactly if it is right
  pub right : refusal b ≡ 0 → (number ≡ 0) ↔ Right (track_said b) (position_said b) sheet

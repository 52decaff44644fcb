-- Sending home all that can go: what is asked, and what the plan, the position and the search count are then.
use Rattle.std.specs.Prelude.{ℕ, ◌+◌, ◌*◌, ◌≤◌, ◌<◌, List, ◌≡◌, length}
use Rattle.model.specs.Lists.{overwritten}
use Rattle.model.specs.Track.{Track}
use Rattle.model.specs.Position.{Position, at, outs}
use Rattle.model.specs.Accepted.{Bounded}
use Rattle.rules.specs.Key.{run, plan_words}
use Rattle.rules.specs.SearchCount.{searched}
use Rattle.search.specs.Leaving.{Seeking}
use Rattle.search.specs.declared.Sent.{Sent}

-- carriers of 16 bits, as the plan's words are, and room for the plan of all that are out
pub record Sendable (t : Track) (p plan : List ℕ) : Type 0 where
  pub bounded : Bounded t p
  pub carriers_small : (z : ℕ) → at p z < 131072
  pub room : length (outs p) * (2 + 2 * t.zones) ≤ length plan

-- the same with the table and the set of the free zones' words made and the zones in order: what the rounds ask
pub record Prepared (t : Track) (p follows free order plan : List ℕ) : Type 0 where
  pub seeking : Seeking t p follows free order
  pub carriers_small : (z : ℕ) → at p z < 131072
  pub room : length (outs p) * (2 + 2 * t.zones) ≤ length plan

-- the words of the key's plan
abbrev pub plan_of : Track → Position → List ℕ
plan_of t p = plan_words (run t p).plan

-- the plan's words are stored, the rest of the plan is as it was, all that can go are gone, and the count is that of all tries
pub record SentHome (t : Track) (p plan p' plan' : List ℕ) (r : Sent) : Type 0 where
  pub planned : r.planned ≡ length (plan_of t p)
  pub written : plan' ≡ overwritten (plan_of t p) plan
  pub last : p' ≡ (run t p).last
  pub searched_is : r.searched ≡ searched t p

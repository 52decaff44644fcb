-- The key and the collapse on a track and a position: what they promise of results and contents, of what is said of the board, and of the
-- position left.
use Rattle.std.specs.Prelude.{ℕ, List, ◌≡◌, cond, length}
use Rattle.model.specs.declared.Summary.{Summary}
use Rattle.model.specs.Lists.{overwritten}
use Rattle.model.specs.Track.{Track}
use Rattle.model.specs.Position.{Position, only_left, outs}
use Rattle.rules.specs.Collapse.{CollapseAnswer}
use Rattle.rules.specs.Key.{KeyAnswer, turns_back}
use Rattle.rules.specs.SearchCount.{searched}

-- a result and the list at exit are a collapse's answer
pub record CollapseGiven (a : CollapseAnswer) (list : List ℕ) (number listed : ℕ) (list' : List ℕ) : Type 0 where
  pub number_is : number ≡ a.number
  pub listed_is : listed ≡ length a.list
  pub list_is : list' ≡ overwritten a.list list

-- a result and the plan and list at exit are a key's answer
pub record KeyGiven (a : KeyAnswer) (plan list : List ℕ) (verdict planned listed : ℕ) (plan' list' : List ℕ) : Type 0 where
  pub verdict_is : verdict ≡ a.verdict
  pub planned_is : planned ≡ length a.plan
  pub listed_is : listed ≡ length a.list
  pub plan_is : plan' ≡ overwritten a.plan plan
  pub list_is : list' ≡ overwritten a.list list

-- what is said of the board beside a key with this verdict: P, Z and C, all 0 on 1 to 11
abbrev pub summary_of : Track → Position → ℕ → Summary
summary_of t p verdict =
    cond (turns_back verdict) (record { points = 0; zones = 0; out = 0 })
    (record { points = t.points; zones = t.zones; out = length (outs p) })

-- the search count beside a key with this verdict: 0 on 1 to 11
abbrev pub searched_of : Track → Position → ℕ → ℕ
searched_of t p verdict = cond (turns_back verdict) 0 (searched t p)

-- the position that a key or a collapse leaves with this number: as it was on 1 to 11, else with only the listed carriers left
abbrev pub position_left : ℕ → List ℕ → Position → Position
position_left number list p = cond (turns_back number) p (only_left list p)

-- The words that the search tries after a word are those that the step rule allows, ascending and below 2 × Z.
-- They are kept from the words below 2 × Z by a test that holds exactly where the rule does.
use Prim.Native.Nat.{ℕ, ◌*◌, ◌<◌}
use mathlib.Core.List.{Memᴰ}
use Rattle.model.specs.Lists.{numbers_below, Ascending}
use Rattle.model.specs.Track.{Track}
use Rattle.model.specs.Position.{Position}
use Rattle.model.proofs.ListLaws.{mem_keep, keep_mem, mem_below, below_mem}
use Rattle.model.proofs.AscendingLaws.{keep_ascending, below_ascending}
use Rattle.rules.specs.Routes.{Step}
use Rattle.rules.specs.Key.{steps, nexts, nexts_by}
use Rattle.rules.proofs.StepTested.{step_of_test, test_of_step}

module _ (t : Track) (p : Position) (c w v : ℕ) where
  pub nexts_step : Memᴰ v (nexts t p c w) → Step t p c w v
  unfolding nexts_by
  nexts_step m = let k = mem_keep (steps t p c w) (numbers_below (2 * t.zones)) m in step_of_test t p c w v (mem_below (2 * t.zones) k.0) k.1

  pub step_nexts : Step t p c w v → Memᴰ v (nexts t p c w)
  unfolding nexts_by
  step_nexts s = keep_mem (steps t p c w) (below_mem (2 * t.zones) v s.ungated.word) (test_of_step t p c w v s)

  pub nexts_below : Memᴰ v (nexts t p c w) → v < 2 * t.zones
  nexts_below m = (nexts_step m).ungated.word

pub nexts_ascending : (t : Track) (p : Position) (c w : ℕ) → Ascending (nexts t p c w)
unfolding nexts_by
nexts_ascending t p c w = keep_ascending (steps t p c w) (numbers_below (2 * t.zones)) (below_ascending (2 * t.zones))

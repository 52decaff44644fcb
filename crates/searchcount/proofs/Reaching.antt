-- The words found from a carrier's standing are those that it reaches by the step rule, ascending, and at most 2 × Z.
-- A word is reached where some way over `nexts` leads to it; the laws of the words found so are crate least's.
use Prim.Native.Nat.{ℕ, ◌*◌, ◌≤◌}
use mathlib.Core.Path.{◌≡◌, refl, sym, ap, ◌∙◌, subst}
use mathlib.Core.List.{List, [], ◌∷◌}
use lib.ListN.{length}
use lib.Dec.{eqb}
use borrow.Author.Tests.{eqb-true, eq-eqb}
use Rattle.model.specs.Lists.{Ascending}
use Rattle.model.specs.Track.{Track}
use Rattle.model.specs.Position.{Position, Stands, Out, Once}
use Rattle.model.specs.Accepted.{Laid}
use Rattle.model.proofs.PositionLaws.{stands_word, stands_below}
use Rattle.rules.specs.Key.{steps, nexts}
use Rattle.rules.specs.SearchCount.{found_from, reached_from_by, reached_by, reached}
use Rattle.rules.proofs.Standing.{stands_zone}
use Rattle.least.specs.Ways.{Way, ends, goes}
use Rattle.least.proofs.Reachable.{Leads, found_leads, leads_found, found_ascending, found_most}
use Rattle.order.proofs.Steps.{nexts_step, step_nexts, nexts_below}
use Rattle.searchcount.specs.Rounds.{Reaches, there, steps_on, Reached, FoundIsReached}

module _ {t : Track} {p : Position} {c : ℕ} where
  reaches_leads : {w v : ℕ} → Reaches t p c w v → Leads (nexts t p c) w v
  reaches_leads {w} there = ([], ends (eq-eqb w w refl))
  reaches_leads {w} (steps_on {u = u} s r) = let (us, y) = reaches_leads r in (u ∷ us, goes (step_nexts t p c w u s) y)

  way_reaches : {v w : ℕ} {us : List ℕ} → Way (nexts t p c) (eqb v) w us → Reaches t p c w v
  way_reaches {v} {w} (ends e) = subst (Reaches t p c w) (sym (eqb-true v w e)) there
  way_reaches {w = w} (goes {v = u} m y) = steps_on (nexts_step t p c w u m) (way_reaches y)

-- the search starts at the standing
pub reached_at : (t : Track) {p : Position} {c w : ℕ} → Once p → Stands p c w → reached t p c ≡ found_from (nexts t p c) (2 * t.zones) w
unfolding reached_by
reached_at t {p} {c} {w} once s = ap (reached_from_by steps t p c) (stands_zone once s) ∙ ap (found_from (nexts t p c) (2 * t.zones)) (stands_word s)

pub found_is_reached : FoundIsReached
found_is_reached t p laid c w v s = (
  λ m. way_reaches (found_leads (nexts t p c) (2 * t.zones) (nexts_below t p c) (stands_below t p laid s) (rw (reached_at t laid.once s) at m)).1,
  λ r. rw (reached_at t laid.once s) (leads_found (nexts t p c) (2 * t.zones) (nexts_below t p c) (stands_below t p laid s) (reaches_leads r)),
)

module _ (t : Track) (p : Position) (laid : Laid t p) {c : ℕ} (out : Out p c) where
  pub reached_right : Reached t p c (reached t p c)
  reached_right = record {
    once = subst Ascending (sym (reached_at t laid.once out.1)) (found_ascending (nexts t p c) (2 * t.zones) (nexts_below t p c) (stands_below t p laid out.1));
    exactly = λ v. (
      λ m. (out.0, out.1, (found_is_reached t p laid c out.0 v out.1).0 m),
      λ r. (found_is_reached t p laid c r.0 v r.1).1 r.2,
    );
  }

  pub reached_most : length (reached t p c) ≤ 2 * t.zones
  reached_most = rw (reached_at t laid.once out.1) (found_most (nexts t p c) (2 * t.zones) (nexts_below t p c) (stands_below t p laid out.1))

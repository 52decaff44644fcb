-- The key's order is the same by the older moving rule, and the key that the older rule's search draws is in it.
-- The least routes are the same: a route of the older rule is one now, or is cut at home to a shorter one.
use Prim.Native.Nat.{ℕ, ◌+◌, ◌*◌, ◌≤◌, ◌<◌}
use mathlib.Core.Path.{◌≡◌, refl, sym, ◌∙◌, subst}
use mathlib.Core.List.{List}
use mathlib.Core.Logic.{◌⊎◌, inl, inr}
use native.Mathlib.Omega.{arith}
use borrow.Author.Tests.{le-ltb}
use lib.ListN.{length}
use Rattle.model.specs.Track.{Track}
use Rattle.model.specs.Position.{Position, outs}
use Rattle.model.specs.Accepted.{Laid}
use Rattle.model.specs.Reading.{refusal, track_said, position_said}
use Rattle.model.proofs.ReadingLaws.{no_row, laid_said}
use Rattle.rules.specs.Routes.{UngatedStep, Entry, Route}
use Rattle.rules.specs.Key.{run, named_by, key_for, key_for_by, key_in_by, key_of, key_of_by}
use Rattle.least.specs.Ways.{Before}
use Rattle.order.specs.LowestFirst.{Least, LowestFirst}
use Rattle.order.specs.LowestFirstBy.{LeastBy, LowestFirstBy}
use Rattle.order.proofs.KeyRun.{run_lowest}
use Rattle.homegate.specs.AgainstOlder.{OlderPlan, InOlderOrder, OlderKey}
use Rattle.homegate.proofs.RouteCut.{route_ungated, cut_shorter, route_cut}
use Rattle.homegate.proofs.KeyAsBefore.{key_same}

module _ {t : Track} {p : Position} {c : ℕ} {r : List ℕ} where
  least_older : Least t p c r → LeastBy UngatedStep t p c r
  least_older m = record { goes = route_ungated m.goes; fewest = λ s k. few s (cut_shorter k); smallest = λ s k e. small s e (cut_shorter k) }
    where
      few : (s : List ℕ) → Route t p c s ⊎ ((u : List ℕ) × Route t p c u × (length u < length s)) → length r ≤ length s
      few s (inl n) = m.fewest s n
      few s (inr (u, n, l)) = omega (arith, m.fewest u n, l)

      small : (s : List ℕ) → length s ≡ length r → Route t p c s ⊎ ((u : List ℕ) × Route t p c u × (length u < length s)) → (r ≡ s) ⊎ Before r s
      small s e (inl n) = m.smallest s n e
      small s e (inr (u, n, l)) = absurd (omega (arith, m.fewest u n, l, e))

  least_now : LeastBy UngatedStep t p c r → Least t p c r
  least_now m = record { goes = uncut (cut_shorter m.goes); fewest = λ s k. m.fewest s (route_ungated k); smallest = λ s k e. m.smallest s (route_ungated k) e }
    where
      uncut : Route t p c r ⊎ ((u : List ℕ) × Route t p c u × (length u < length r)) → Route t p c r
      uncut (inl n) = n
      uncut (inr (u, n, l)) = absurd (omega (arith, m.fewest u (route_ungated n), l))

module _ {t : Track} where
  order_older : {p q : Position} {es : List Entry} → LowestFirst t p es q → LowestFirstBy UngatedStep t p es q
  order_older (LowestFirst.ended none) = LowestFirstBy.ended (λ c (r, g). none c (route_cut g))
  order_older (LowestFirst.leaves lower m more) = LowestFirstBy.leaves (λ d l (r, g). lower d l (route_cut g)) (least_older m) (order_older more)

  order_now : {p q : Position} {es : List Entry} → LowestFirstBy UngatedStep t p es q → LowestFirst t p es q
  order_now (LowestFirstBy.ended none) = LowestFirst.ended (λ c (r, g). none c (r, route_ungated g))
  order_now (LowestFirstBy.leaves lower m more) = LowestFirst.leaves (λ d l (r, g). lower d l (r, route_ungated g)) (least_now m) (order_now more)

pub older_plan : OlderPlan
older_plan t p q es = (order_older, order_now)

-- where 1 to 11 aren't met, the key is that of the track and the position
drawn : (b : List ℕ) (planRoom listRoom : ℕ) → refusal b ≡ 0 → length (outs (position_said b)) * (2 + 2 * (track_said b).zones) ≤ planRoom → length (outs (position_said b)) ≤ listRoom
    → key_of b planRoom listRoom ≡ key_for (track_said b) (position_said b)
unfolding key_of_by key_in_by
drawn b planRoom listRoom accepted plan_fits list-fits =
    rw (accepted, le-ltb planRoom (length (outs (position_said b)) * (2 + 2 * (track_said b).zones)) plan_fits, le-ltb listRoom (length (outs (position_said b))) list-fits)

key_in_order : {t : Track} {p : Position} → Laid t p → InOlderOrder t p (key_for t p)
unfolding key_for_by named_by
key_in_order {t} {p} laid = record { entries = (run t p).plan; last = (run t p).last; written = refl; lowest = (older_plan t p _ _).0 (run_lowest t p laid); left = refl }

pub older_key : OlderKey
older_key b planRoom listRoom accepted plan_fits list-fits =
    subst (InOlderOrder (track_said b) (position_said b)) (sym (key_same b planRoom listRoom ∙ drawn b planRoom listRoom accepted plan_fits list-fits)) (key_in_order (laid_said b (no_row b accepted)))

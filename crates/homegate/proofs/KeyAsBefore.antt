-- The key by the older moving rule is the key, for every list of bytes and every room lent: verdict, plan and list.
-- Each least route is the same, since the least way ends where it first leaves at home; and all else of a key goes by least routes.
use Prim.Native.Nat.{ℕ, zero, suc, ◌*◌}
use mathlib.Core.Path.{◌≡◌, refl, sym, ap, ap₂}
use mathlib.Core.List.{List, [], ◌∷◌}
use mathlib.Core.Option.{Option, none, some}
use lib.ListN.{length}
use Rattle.model.specs.Track.{Track}
use Rattle.model.specs.Position.{Position, outs, retire, standing}
use Rattle.model.specs.Reading.{track_said, position_said}
use Rattle.rules.specs.Routes.{Entry}
use Rattle.rules.specs.Key.{leaves_home, ungated_steps, zone_for, goes_else, Run, run_on, verdict_of, plan_words}
use Rattle.rules.specs.Key.{nexts, route_from, least_route, first_to_go, run_for, run, named, key_for}
use Rattle.rules.specs.Key.{nexts_by, route_from_by, least_route_by, first_to_go_by, run_for_by, run_by, named_by, key_for_by, key_in_by, key_of_by}
use Rattle.rules.proofs.StepsAfter.{elsewhere_as_before}
use Rattle.least.proofs.GoalsShut.{least_same}
use Rattle.homegate.specs.AgainstOlder.{KeySame}

least_route_same : (t : Track) (p : Position) (c : ℕ) → least_route_by ungated_steps t p c ≡ least_route t p c
unfolding least_route_by
least_route_same t p c = go (zone_for p c)
  where
    go : (o : Option ℕ) → route_from_by ungated_steps t p c o ≡ route_from t p c o
    go none = refl
    go (some z) = sym (least_same (nexts_by ungated_steps t p c) (nexts t p c) (leaves_home t) (elsewhere_as_before t p c) (2 * t.zones) (standing p z))

first_to_go_same : (t : Track) (p : Position) (cs : List ℕ) → first_to_go_by ungated_steps t p cs ≡ first_to_go t p cs
unfolding first_to_go_by
first_to_go_same t p [] = refl
first_to_go_same t p (c ∷ cs) = ap₂ (goes_else c) (least_route_same t p c) (first_to_go_same t p cs)

run_for_same : (n : ℕ) (t : Track) (p : Position) → run_for_by ungated_steps n t p ≡ run_for n t p
unfolding run_for_by
run_for_same zero t p = refl
run_for_same (suc n) t p = rw (first_to_go_same t p (outs p)) (go (first_to_go t p (outs p)) (λ q. run_for_same n t q))
  where
    go : (o : Option Entry) → ((q : Position) → run_for_by ungated_steps n t q ≡ run_for n t q)
        → run_on p o (λ e. run_for_by ungated_steps n t (retire e.carrier p)) ≡ run_on p o (λ e. run_for n t (retire e.carrier p))
    go none ih = refl
    go (some e) ih = ap (λ (r : Run). run_on p (some e) (λ e. r)) (ih (retire e.carrier p))

run_same : (t : Track) (p : Position) → run_by ungated_steps t p ≡ run t p
unfolding run_by
run_same t p = run_for_same (length (outs p)) t p

pub named_same : (t : Track) (p : Position) → named_by ungated_steps t p ≡ named t p
unfolding named_by
named_same t p = ap (λ (r : Run). outs r.last) (run_same t p)

key_for_same : (t : Track) (p : Position) → key_for_by ungated_steps t p ≡ key_for t p
unfolding key_for_by
key_for_same t p = ap₂ (λ (r : Run) (l : List ℕ). record { verdict = verdict_of l; plan = plan_words r.plan; list = l }) (run_same t p) (named_same t p)

pub key_same : KeySame
unfolding key_of_by key_in_by
key_same b planRoom listRoom = rw (key_for_same (track_said b) (position_said b))

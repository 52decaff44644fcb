-- A route of a sheet passes the marker's tests 31 to 33 exactly where it is a route by the rules.
-- Word by word: the tested step is the stated step, and the last word's test is arrival.
use Prim.Native.Nat.{ℕ, ◌+◌, ◌*◌, ◌<◌}
use mathlib.Core.List.{List, [], ◌∷◌}
use mathlib.Core.Path.{◌≡◌, refl}
use mathlib.Core.Bool.{true, ◌&&◌, false≢true}
use native.Mathlib.Omega.{arith}
use lib.ListN.{length}
use lib.Dec.{ltb, eqb}
use borrow.Author.Tests.{ltb-true, lt-ltb, eqb-true, eq-eqb}
use Rattle.model.proofs.BoolLaws.{and_left, and_right, and_both}
use Rattle.model.specs.Track.{Track, zone_of, heading_of, leave}
use Rattle.model.specs.Position.{Position, at}
use Rattle.rules.specs.Routes.{Onward, arrives, goes, Route, route}
use Rattle.rules.specs.Key.{steps}
use Rattle.rules.specs.Sheet.{follow, follow_by, by_rules, by_rules_by, ends_home}
use Rattle.rules.proofs.StepTested.{step_of_test, test_of_step}

module _ (t : Track) (p : Position) (c : ℕ) where
  pub onward_of_tests : (w : ℕ) (vs : List ℕ) → follow t p c w vs ≡ true → ends_home t (w ∷ vs) ≡ true → Onward t p c w vs
  unfolding follow_by ends_home
  onward_of_tests w [] f h = arrives (eqb-true (leave t w) t.home h)
  onward_of_tests w (v ∷ vs) f h =
      let tail : (steps t p c w v && follow t p c v vs) ≡ true = and_right (ltb v (2 * t.zones)) _ f in
      goes (step_of_test t p c w v (ltb-true v (2 * t.zones) (and_left (ltb v (2 * t.zones)) (steps t p c w v && follow t p c v vs) f)) (and_left (steps t p c w v) (follow t p c v vs) tail))
      (onward_of_tests v vs (and_right (steps t p c w v) (follow t p c v vs) tail) h)

  pub follow_of_onward : {w : ℕ} {vs : List ℕ} → Onward t p c w vs → follow t p c w vs ≡ true
  unfolding follow_by
  follow_of_onward (arrives h) = refl
  follow_of_onward (goes {w = w} {v = v} {vs = vs} s o) =
      and_both (ltb v (2 * t.zones)) (steps t p c w v && follow t p c v vs) (lt-ltb v (2 * t.zones) s.ungated.word)
      (and_both (steps t p c w v) (follow t p c v vs) (test_of_step t p c w v s) (follow_of_onward o))

  pub home_of_onward : {w : ℕ} {vs : List ℕ} → Onward t p c w vs → ends_home t (w ∷ vs) ≡ true
  unfolding ends_home
  home_of_onward (arrives {w = w} h) = eq-eqb (leave t w) t.home h
  home_of_onward (goes s o) = home_of_onward o

  pub route_of_tests : length p ≡ t.zones → (c ≡ 0 → ⊥) → (r : List ℕ) → by_rules t p c r ≡ true → ends_home t r ≡ true → Route t p c r
  unfolding by_rules_by
  route_of_tests each numbered [] b h = absurd (false≢true b)
  route_of_tests each numbered (w ∷ vs) b h =
      let inside : w < 2 * t.zones = ltb-true w (2 * t.zones) (and_left (ltb w (2 * t.zones)) _ b) in
      let tail : (eqb (at p (zone_of w)) (2 * c + heading_of w) && follow t p c w vs) ≡ true = and_right (ltb w (2 * t.zones)) _ b in
      let zone : zone_of w < length p = omega arith in
      route {w = w} (record { numbered = numbered; inside = zone; holds = eqb-true (at p (zone_of w)) (2 * c + heading_of w) (and_left (eqb (at p (zone_of w)) (2 * c + heading_of w)) (follow t p c w vs) tail) })
      (onward_of_tests w vs (and_right (eqb (at p (zone_of w)) (2 * c + heading_of w)) (follow t p c w vs) tail) h)

  pub rules_of_route : length p ≡ t.zones → {r : List ℕ} → Route t p c r → by_rules t p c r ≡ true
  unfolding by_rules_by
  rules_of_route each (route {w = w} {vs = vs} s o) =
      let inside : zone_of w < length p = s.inside in
      let word : w < 2 * t.zones = omega arith in
      and_both (ltb w (2 * t.zones)) (eqb (at p (zone_of w)) (2 * c + heading_of w) && follow t p c w vs) (lt-ltb w (2 * t.zones) word)
      (and_both (eqb (at p (zone_of w)) (2 * c + heading_of w)) (follow t p c w vs) (eq-eqb (at p (zone_of w)) (2 * c + heading_of w) s.holds) (follow_of_onward o))

  pub home_of_route : {r : List ℕ} → Route t p c r → ends_home t r ≡ true
  home_of_route (route s o) = home_of_onward o

-- Two ways home over free zones: straight on from where a carrier leaves; and by a turn there, back through its own zone and on from where it starts.
-- Walks make a route by the older rule, and it is cut at home.
use Prim.Native.Nat.{ℕ, ◌*◌, ◌<◌}
use mathlib.Core.List.{List, [], ◌∷◌}
use mathlib.Core.Path.{◌≡◌, refl, sym, ◌∙◌, ap, subst}
use mathlib.Core.Logic.{inr}
use mathlib.Core.Bool.{true, false, true≢false}
use Rattle.model.specs.Track.{Track, Linked, zone_of, rev, start, leave}
use Rattle.model.specs.Position.{Position, at, carrier_of, is_free, Stands}
use Rattle.rules.specs.Routes.{UngatedStep, goes, route}
use Rattle.rules.specs.Tries.{CanGo}
use Rattle.model.proofs.WordLaws.{zone_rev, rev_below, leave_rev}
use Rattle.model.proofs.PositionLaws.{stands_carrier, stands_not_free}
use Rattle.homegate.proofs.RouteCut.{route_cut}
use Rattle.turning.specs.Walks.{Walk}
use Rattle.turning.proofs.WalkLaws.{apart_outside, walk_of_linked}
use Rattle.blocking.proofs.Onwards.{along_some, walk_home, Homeward}

module _ {t : Track} {p : Position} {c w : ℕ} (s : Stands p c w) where
  -- straight on
  pub goes_on_lem : Linked t (λ z. is_free p z ≡ true) (leave t w) t.home → CanGo t p c
  goes_on_lem near =
      let k : (ws : List ℕ) × Walk t (is_free p) (leave t w) ws t.home = walk_of_linked t (is_free p) near in
      let r : Homeward t p c w = walk_home t p c k.1 w refl (apart_outside w (stands_not_free s) k.1) in
      route_cut (route s r.1)

  -- by a turn
  pub goes_back : w < 2 * t.zones → {ws : List ℕ} → Walk t (is_free p) (leave t w) ws (leave t w) → (ws ≡ [] → ⊥) → Linked t (λ z. is_free p z ≡ true) (start t w) t.home → CanGo t p c
  goes_back below turn some near =
      route_cut (route s turned.1)
    where
      rest : (ws : List ℕ) × Walk t (is_free p) (start t w) ws t.home
      rest = walk_of_linked t (is_free p) near

      held_back : is_free p (zone_of (rev w)) ≡ false
      held_back = subst (λ (z : ℕ). is_free p z ≡ false) (sym (zone_rev w)) (stands_not_free s)

      back : Homeward t p c (rev w)
      back = walk_home t p c rest.1 (rev w) (leave_rev t w) (apart_outside (rev w) held_back rest.1)

      own : (x : ℕ) → is_free p (zone_of x) ≡ true → leave t x ≡ leave t w → UngatedStep t p c x (rev w)
      own x f l =
          record {
            word = rev_below t.zones w below;
            touches = sym l;
            another = λ z. true≢false (sym f ∙ ap (is_free p) (sym z) ∙ held_back);
            clear = inr (ap carrier_of (ap (at p) (zone_rev w)) ∙ stands_carrier s);
          }

      turned : Homeward t p c w
      turned = along_some t p c turn some w refl (apart_outside w (stands_not_free s) turn) (λ x f l. (rev w ∷ back.0, goes (own x f l) back.1))

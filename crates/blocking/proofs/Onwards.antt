-- A walk over free zones as a part of a route: a carrier goes along it, home or to where it goes on.
-- By induction on the walk, each word a step of the carrier by the older rule: a walk may pass the home point, and the route is cut there later.
use Prim.Native.Nat.{ℕ, ◌*◌, ◌<◌}
use mathlib.Core.List.{List, [], ◌∷◌}
use mathlib.Core.Path.{◌≡◌, refl, sym, ◌∙◌}
use mathlib.Core.Logic.{inl}
use mathlib.Core.Bool.{true}
use Rattle.model.specs.Track.{Track, zone_of, start, leave}
use Rattle.model.specs.Position.{Position, is_free}
use Rattle.rules.specs.Routes.{UngatedStep, OnwardBy, arrives, goes}
use Rattle.turning.specs.Walks.{AnotherZone, Walk, stay, go}
use Rattle.blocking.proofs.Standings.{free_number}

module _ (t : Track) (q : Position) (c : ℕ) where
  -- from word w on, some words lead home
  abbrev pub Homeward : ℕ → Type 0
  Homeward w = (vs : List ℕ) × OnwardBy UngatedStep t q c w vs

  step_free : {w : ℕ} (x : ℕ) → x < 2 * t.zones → is_free q (zone_of x) ≡ true → start t x ≡ leave t w → (zone_of x ≡ zone_of w → ⊥) → UngatedStep t q c w x
  step_free x h e s a = record { word = h; touches = s; another = a; clear = inl (free_number q (zone_of x) e) }

  -- on from w along a walk over free zones, and from its last word on home
  pub along : {u v : ℕ} {ws : List ℕ} → Walk t (is_free q) u ws v → (w : ℕ) → leave t w ≡ u → AnotherZone w ws → is_free q (zone_of w) ≡ true → ((x : ℕ) → is_free q (zone_of x) ≡ true → leave t x ≡ v → Homeward x) → Homeward w
  along stay w l a f onward = onward w f l
  along (go x h e s a k) w l b f onward =
      let r : Homeward x = along k x refl a e onward in
      (x ∷ r.0, goes (step_free x h e (s ∙ sym l) b) r.1)

  -- the same from a word of any zone, where the walk has some word
  pub along_some : {u v : ℕ} {ws : List ℕ} → Walk t (is_free q) u ws v → (ws ≡ [] → ⊥) → (w : ℕ) → leave t w ≡ u → AnotherZone w ws → ((x : ℕ) → is_free q (zone_of x) ≡ true → leave t x ≡ v → Homeward x) → Homeward w
  along_some stay some w l a onward = absurd (some refl)
  along_some (go x h e s a k) some w l b onward =
      let r : Homeward x = along k x refl a e onward in
      (x ∷ r.0, goes (step_free x h e (s ∙ sym l) b) r.1)

  -- a walk to home
  pub walk_home : {u : ℕ} {ws : List ℕ} → Walk t (is_free q) u ws t.home → (w : ℕ) → leave t w ≡ u → AnotherZone w ws → Homeward w
  walk_home stay w l a = ([], arrives l)
  walk_home (go x h e s a k) w l b =
      let r : Homeward x = walk_home k x refl a in
      (x ∷ r.0, goes (step_free x h e (s ∙ sym l) b) r.1)

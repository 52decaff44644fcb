-- From every point a part grows until it has every passing zone that touches it; it then has just the points linked to that point.
-- Each step brings one zone more, and a part has no more zones than the track, so the growing ends.
use Prim.Native.Nat.{ℕ, zero, suc, ◌+◌, ◌*◌, ◌<◌}
use mathlib.Core.List.{List, [], ◌∷◌}
use mathlib.Core.Path.{◌≡◌, refl, ap, ◌∙◌}
use mathlib.Core.Bool.{Bool, true, false, not, ◌&&◌}
use mathlib.Core.Logic.{◌⊎◌, inl, inr}
use native.Mathlib.Omega.{arith}
use lib.ListN.{length}
use borrow.Author.Tests.{not-true, not-false}
use Rattle.model.specs.Lists.{any_of, numbers_below, how_many}
use Rattle.model.specs.Track.{Track, Linked, here, over, zone_of, rev, start, leave}
use Rattle.model.proofs.BoolLaws.{and_left, and_right}
use Rattle.model.proofs.ListLaws.{any_below, any_below_false}
use Rattle.model.proofs.CountLaws.{how_many_below}
use Rattle.turning.specs.Walks.{Walk, stay, go}
use Rattle.turning.proofs.Members.{elem, count_no_members, count_members}
use Rattle.model.proofs.WordLaws.{zone_rev, zone_below, rev_below}
use Rattle.turning.proofs.WalkLaws.{widen, linked_of_walk}
use Rattle.turning.proofs.OneMore.{among}
use Rattle.turning.proofs.Part.{Part, alone, new_point, both_inside, ends_inside, zone_new, ways, zones_pass}

module _ {t : Track} {passes : ℕ → Bool} {v : ℕ} where
  -- no zone comes in twice
  pub zones_counted : {zs ps : List ℕ} → Part t passes v zs ps → how_many (among zs) (numbers_below t.zones) ≡ length zs
  zones_counted alone = count_no_members t.zones
  zones_counted (new_point {zs} w h e s n k) = count_members (zone_of w) zs t.zones (zone_below t.zones w h) (zone_new k w n) ∙ ap suc (zones_counted k)
  zones_counted (both_inside {zs} w h e s l n k) = count_members (zone_of w) zs t.zones (zone_below t.zones w h) n ∙ ap suc (zones_counted k)

  -- no point comes in twice
  pub points_counted : {zs ps : List ℕ} → v < t.points → ((w : ℕ) → w < 2 * t.zones → start t w < t.points) → Part t passes v zs ps → how_many (among ps) (numbers_below t.points) ≡ length ps
  points_counted b inside alone = count_members v [] t.points b refl ∙ ap suc (count_no_members t.points)
  points_counted b inside (new_point {ps} w h e s n k) = count_members (leave t w) ps t.points (inside (rev w) (rev_below t.zones w h)) n ∙ ap suc (points_counted b inside k)
  points_counted b inside (both_inside w h e s l n k) = points_counted b inside k

-- a part with every passing zone that touches it
pub record WholePart (t : Track) (passes : ℕ → Bool) (v : ℕ) : Type 0 where
  pub zones : List ℕ
  pub points : List ℕ
  pub part : Part t passes v zones points
  pub complete : (w : ℕ) → w < 2 * t.zones → passes (zone_of w) ≡ true → elem (start t w) points ≡ true → elem (zone_of w) zones ≡ true

-- the zone of w passes, touches the part and isn't in it
abbrev touches : Track → (ℕ → Bool) → List ℕ → List ℕ → ℕ → Bool
touches t passes zs ps w = passes (zone_of w) && (elem (start t w) ps && not (elem (zone_of w) zs))

module _ (t : Track) (passes : ℕ → Bool) (v : ℕ) where
  -- a part with one zone more than zs
  abbrev Bigger : List ℕ → Type 0
  Bigger zs = (ys : List ℕ) × (qs : List ℕ) × Part t passes v ys qs × (length ys ≡ suc (length zs))

  module _ {zs ps : List ℕ} (k : Part t passes v zs ps) where
    add : (w : ℕ) → w < 2 * t.zones → passes (zone_of w) ≡ true → elem (start t w) ps ≡ true → elem (zone_of w) zs ≡ false → (b : Bool) → elem (leave t w) ps ≡ b → Bigger zs
    add w h e s n true l = (zone_of w ∷ zs, ps, both_inside w h e s l n k, refl)
    add w h e s n false l = (zone_of w ∷ zs, leave t w ∷ ps, new_point w h e s l k, refl)

    add_touching : (w : ℕ) → w < 2 * t.zones → touches t passes zs ps w ≡ true → Bigger zs
    add_touching w h e =
        let a = passes (zone_of w) in
        let b = elem (start t w) ps in
        let c = elem (zone_of w) zs in
        let r = and_right a (b && not c) e in
        add w h (and_left a (b && not c) e) (and_left b (not c) r) (not-true c (and_right b (not c) r)) (elem (leave t w) ps) refl

    all_in : (w : ℕ) → touches t passes zs ps w ≡ false → passes (zone_of w) ≡ true → elem (start t w) ps ≡ true → elem (zone_of w) zs ≡ true
    all_in w e p s = not-false (elem (zone_of w) zs) (rw (p, s) at e)

    -- one zone more, or all are in
    step : (b : Bool) → any_of (touches t passes zs ps) (numbers_below (2 * t.zones)) ≡ b → Bigger zs ⊎ WholePart t passes v
    step true e = let r = any_below (touches t passes zs ps) (2 * t.zones) e in inl (add_touching r.0 r.1 r.2)
    step false e = inr (record { zones = zs; points = ps; part = k; complete = λ w h. all_in w (any_below_false (touches t passes zs ps) (2 * t.zones) e w h) })

  grow : (n : ℕ) (zs ps : List ℕ) → Part t passes v zs ps → t.zones < n + length zs → WholePart t passes v
  grow zero zs ps k m = let a = zones_counted k in let b = how_many_below (among zs) t.zones in absurd (omega arith)
  grow (suc n) zs ps k m = on (step k (any_of (touches t passes zs ps) (numbers_below (2 * t.zones))) refl) (λ ys qs r. grow n ys qs r)
    where
      on : Bigger zs ⊎ WholePart t passes v → ((ys qs : List ℕ) → Part t passes v ys qs → t.zones < n + length ys → WholePart t passes v) → WholePart t passes v
      on (inl s) rest = let e = s.3 in rest s.0 s.1 s.2 (omega arith)
      on (inr s) rest = s

  pub whole : WholePart t passes v
  whole = grow (suc t.zones) [] (v ∷ []) alone (omega arith)

module _ {t : Track} {passes : ℕ → Bool} {v : ℕ} (x : WholePart t passes v) where
  -- no passing zone leads out of it
  leaves_inside : (w : ℕ) → w < 2 * t.zones → passes (zone_of w) ≡ true → elem (start t w) x.points ≡ true → elem (leave t w) x.points ≡ true
  leaves_inside w h e i = ends_inside x.part (rev w) (rw zone_rev (x.complete w h e i))

  pub linked_inside : {p q : ℕ} → Linked t (λ z. passes z ≡ true) p q → elem p x.points ≡ true → elem q x.points ≡ true
  linked_inside here i = i
  linked_inside (over w h e s k) i = linked_inside k (leaves_inside w h e (rw s i))

  pub inside_linked : (q : ℕ) → elem q x.points ≡ true → Linked t (λ z. passes z ≡ true) v q
  inside_linked q i = linked_of_walk t passes (widen t (among x.zones) passes (zones_pass x.part) (ways x.part q i).0.1)

  pub walks_inside : {p q : ℕ} {ws : List ℕ} → elem p x.points ≡ true → Walk t passes p ws q → Walk t (among x.zones) p ws q
  walks_inside i stay = stay
  walks_inside i (go w h e s a k) =
      let j : elem (start t w) x.points ≡ true = rw s i in
      go w h (x.complete w h e j) s a (walks_inside (leaves_inside w h e j) k)

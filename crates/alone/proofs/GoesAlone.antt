-- A carrier that is alone out can go: with every other carrier gone, the two-zone rule gives a way home or a loop to turn in.
-- X is the free part where it leaves. With home in X it goes straight on. Otherwise the point where it starts isn't in X either, and is joined to
-- home. Each point of X has two zone ends or more, and of all these only one isn't a free zone's; so X has as many zones as points: it holds a loop,
-- and the carrier turns there and comes back through its own zone.
use Prim.Native.Nat.{ℕ, ◌*◌, ◌≤◌, ◌<◌}
use mathlib.Core.Path.{◌≡◌, refl, sym, ◌∙◌, ap, subst}
use mathlib.Core.Logic.{◌⊎◌, inl, inr, ⊎_elim}
use mathlib.Core.Bool.{Bool, true, false}
use native.Mathlib.Omega.{arith}
use lib.ListN.{length}
use Rattle.model.specs.Track.{Track, Linked, here, zone_of, rev, start, leave}
use Rattle.model.specs.Position.{Position, at, carrier_of, is_free, standing, Stands, Out}
use Rattle.model.specs.Labels.{label}
use Rattle.model.specs.Accepted.{HangsTogether, Laid}
use Rattle.model.proofs.BoolLaws.{both_ways, not_true_false, decided}
use Rattle.model.proofs.WordLaws.{zone_rev, zone_below, rev_below, leave_rev, same_zone}
use Rattle.model.proofs.PositionLaws.{laid_stands, stands_below, stands_not_free}
use Rattle.model.proofs.LinkLaws.{linked_trans, linked_mono, linked_word, linked_below, linked_keeps}
use Rattle.rules.specs.Tries.{CanGo}
use Rattle.rules.specs.Collapse.{free_parts, loop_in}
use Rattle.turning.proofs.Members.{elem}
use Rattle.turning.proofs.WalkLaws.{widen}
use Rattle.turning.proofs.OneMore.{among, Turn}
use Rattle.turning.proofs.Part.{zones_pass, turn}
use Rattle.turning.proofs.Whole.{WholePart, whole, zones_counted, linked_inside, inside_linked}
use Rattle.blocking.proofs.Standings.{standing_zone, free_number}
use Rattle.blocking.proofs.Loops.{loop_turns, no_loop_stays}
use Rattle.blocking.proofs.WaysHome.{goes_on_lem, goes_back}
use Rattle.alone.specs.NeverOne.{HasTwoZones, TwoZones, WayOrLoop}
use Rattle.alone.proofs.Ends.{often_each, ends_few}

module _ {t : Track} {p : Position} (laid : Laid t p) {c w : ℕ} (s : Stands p c w) (others-gone : (d : ℕ) → Out p d → d ≡ c) where
  -- joined over free zones
  abbrev Joined : ℕ → ℕ → Type 0
  Joined = Linked t (λ z. is_free p z ≡ true)

  below : w < 2 * t.zones
  below = stands_below t p laid s

  -- where it leaves is a point of the track
  leaves_inside : leave t w < t.points
  leaves_inside = laid.inside (rev w) (rev_below t.zones w below)

  -- a zone that isn't free is its own
  own_zone : (z : ℕ) → z < t.zones → is_free p z ≡ false → z ≡ zone_of w
  own_zone z h held =
      let there : Stands p (carrier_of (at p z)) (standing p z) = laid_stands t p laid z h held in
      let same : carrier_of (at p z) ≡ c = others-gone (carrier_of (at p z)) (standing p z, there) in
      sym (standing_zone p z) ∙ ap zone_of (laid.once c (standing p z) w (subst (λ (d : ℕ). Stands p d (standing p z)) same there) s)

  own_word : (u : ℕ) → u < 2 * t.zones → is_free p (zone_of u) ≡ false → (u ≡ w) ⊎ (u ≡ rev w)
  own_word u h held = same_zone u w (own_zone (zone_of u) (zone_below t.zones u h) held)

  -- every point is joined to where it leaves or to where it starts
  abbrev EitherSide : ℕ → Type 0
  EitherSide q = Joined (leave t w) q ⊎ Joined (start t w) q

  over_zone : (u : ℕ) → u < 2 * t.zones → Unit {0} → EitherSide (start t u) → EitherSide (leave t u)
  over_zone u h any side = by (is_free p (zone_of u)) refl side
    where
      across : (u ≡ w) ⊎ (u ≡ rev w) → EitherSide (leave t u)
      across (inl e) = inl (subst (λ (v : ℕ). Joined (leave t w) (leave t v)) (sym e) here)
      across (inr e) = inr (subst (Joined (start t w)) (sym (ap (leave t) e ∙ leave_rev t w)) here)

      by : (b : Bool) → is_free p (zone_of u) ≡ b → EitherSide (start t u) → EitherSide (leave t u)
      by true f (inl k) = inl (linked_trans t k (linked_word t u h f))
      by true f (inr k) = inr (linked_trans t k (linked_word t u h f))
      by false f k = across (own_word u h f)

  home_joined : HangsTogether t → EitherSide t.home
  home_joined hangs = linked_keeps t EitherSide over_zone (hangs (leave t w) t.home leaves_inside laid.home_in) (inl here)

  -- the free part where it leaves
  X : WholePart t (is_free p) (leave t w)
  X = whole t (is_free p) (leave t w)

  module _ (two : TwoZones t) (count : length t.ends ≡ 2 * t.zones) (home_outside : elem t.home X.points ≡ false) (start_outside : elem (start t w) X.points ≡ false) where
    two_each : (q : ℕ) → elem q X.points ≡ true → HasTwoZones t q
    two_each q i =
        two q
        (linked_below t laid.inside leaves_inside (inside_linked X q i))
        (λ e. both_ways i (ap (among X.points) e ∙ home_outside))

    own_outside : elem (zone_of (rev w)) X.zones ≡ false
    own_outside = not_true_false (elem (zone_of (rev w)) X.zones) (λ i. both_ways (zones_pass X.part (zone_of (rev w)) i) (ap (is_free p) (zone_rev w) ∙ stands_not_free s))

    -- a word that starts in X is of a zone of X, or goes back through its own zone
    of_part : (u : ℕ) → u < 2 * t.zones → elem (start t u) X.points ≡ true → (u ≡ rev w) ⊎ (elem (zone_of u) X.zones ≡ true)
    of_part u h i = by (is_free p (zone_of u)) refl
      where
        back : (u ≡ w) ⊎ (u ≡ rev w) → (u ≡ rev w) ⊎ (elem (zone_of u) X.zones ≡ true)
        back (inl e) = both_ways i (ap (λ (v : ℕ). elem (start t v) X.points) e ∙ start_outside)
        back (inr e) = inl e

        by : (b : Bool) → is_free p (zone_of u) ≡ b → (u ≡ rev w) ⊎ (elem (zone_of u) X.zones ≡ true)
        by true f = inr (X.complete u h f i)
        by false f = back (own_word u h f)

    as_many_zones : length X.points ≤ length X.zones
    as_many_zones =
        omega
        (arith, often_each X.part t.ends two_each, ends_few t count (among X.points) (among X.zones) (rev w) (rev_below t.zones w below) own_outside of_part, zones_counted X.part)

  -- home is in X, or X holds a loop
  home_or_loop : TwoZones t → length t.ends ≡ 2 * t.zones → HangsTogether t → Joined (leave t w) t.home ⊎ (loop_in t p (free_parts t p) (label (free_parts t p) (leave t w)) ≡ true)
  home_or_loop two count hangs = by (home_joined hangs) (decided (elem t.home X.points))
    where
      as_home : Joined (start t w) t.home → elem t.home X.points ≡ false → elem (start t w) X.points ≡ false
      as_home near n = not_true_false (elem (start t w) X.points) (λ i. both_ways (linked_inside X near i) n)

      loop : (b : Bool) → loop_in t p (free_parts t p) (label (free_parts t p) (leave t w)) ≡ b → Turn t X.zones (leave t w) → b ≡ true
      loop true e r = refl
      loop false e r = absurd (r.2 (no_loop_stays laid (leave t w) leaves_inside e r.0 (widen t (among X.zones) (is_free p) (zones_pass X.part) r.1)))

      by : EitherSide t.home → (elem t.home X.points ≡ true) ⊎ (elem t.home X.points ≡ false) → Joined (leave t w) t.home ⊎ (loop_in t p (free_parts t p) (label (free_parts t p) (leave t w)) ≡ true)
      by (inl near) h = inl near
      by (inr near) (inl i) = inl (inside_linked X t.home i)
      by (inr near) (inr n) = inr (loop _ refl (turn X.part (as_many_zones two count n (as_home near n))))

  pub goes_by_two_zones : TwoZones t → length t.ends ≡ 2 * t.zones → HangsTogether t → CanGo t p c
  goes_by_two_zones two count hangs = by (home_joined hangs) (home_or_loop two count hangs)
    where
      by : EitherSide t.home → Joined (leave t w) t.home ⊎ (loop_in t p (free_parts t p) (label (free_parts t p) (leave t w)) ≡ true) → CanGo t p c
      by (inl near) h = goes_on_lem s near
      by (inr near) (inl way) = goes_on_lem s way
      by (inr near) (inr loop) = let r = loop_turns laid (leave t w) leaves_inside loop in goes_back s below r.1 r.2 near

pub way_or_loop : WayOrLoop
way_or_loop t count two hangs p laid c w (out, others-gone) s = ⊎_elim (λ way. inl (linked_mono t (λ z h. free_number p z) way)) inr (home_or_loop laid s others-gone two count hangs)

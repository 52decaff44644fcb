-- What is reached from home over the ways of joining and merging is home's set.
-- Each kind of step is over a word that a set goes on over in merging, and over each such word one of these steps leads.
use Prim.Native.Nat.{ℕ, ◌-◌, ◌*◌, ◌<◌}
use mathlib.Core.Path.{◌≡◌, refl, sym, ap, ◌∙◌, subst}
use mathlib.Core.List.{List}
use mathlib.Core.Logic.{◌⊎◌, inl, inr}
use mathlib.Core.Bool.{Bool, true, false, not, ◌&&◌}
use native.Mathlib.Omega.{arith}
use borrow.Author.Tests.{eqb-true, eqb-false, ne_eqb, not-true}
use lib.Dec.{eqb}
use Rattle.model.specs.Track.{Track, zone_of, heading_of, rev, start, leave}
use Rattle.model.specs.Position.{Position, at, carrier_of, is_free, Stands, standing}
use Rattle.model.specs.Accepted.{Laid}
use Rattle.model.specs.Labels.{label}
use Rattle.model.proofs.BoolLaws.{decided, and_left}
use Rattle.model.proofs.WordLaws.{zone_rev, rev_below, zone_below, heading_rev, heading_small, word_parts, leave_rev}
use Rattle.model.proofs.PositionLaws.{stands_heading, stands_held, laid_stands, stands_below}
use Rattle.rules.specs.Collapse.{free_parts, loop_in, turns}
use Rattle.bits.specs.Sets.{has_bit}
use Rattle.reach.specs.Ways.{Reach, Grown}
use Rattle.reach.specs.Ways.Reach.{here, on}
use Rattle.parts.specs.Home.{Home, HomeWord}
use Rattle.parts.specs.Home.Home.{itself, over_free, over_turning, behind}
use Rattle.parts.specs.Ways.{goes_on, WaysOn, Looped}
use Rattle.parts.proofs.OneWord.{goes_over_free, goes_back, goes_by_set}

module _ {t : Track} {p : Position} (laid : Laid t p) {s : ℕ} (looped : Looped t p s) where
  abbrev goes : ℕ → Bool
  goes = goes_on t.ends p true s

  -- a held zone turns where its carrier leaves at a point of a part with a loop
  turns_by_set : (z : ℕ) → z < t.zones → (at p z ≡ 0 → ⊥) → turns t p (free_parts t p) z ≡ has_bit s (leave t (standing p z))
  unfolding turns
  turns_by_set z h held =
      ap (λ (b : Bool). not b && loop_in t p (free_parts t p) (label (free_parts t p) (leave t (standing p z)))) (ne_eqb (at p z) 0 held)
      ∙ sym (looped.exact (leave t (standing p z)) (laid.inside (rev (standing p z)) (omega arith)))

  turning_held : (z : ℕ) → turns t p (free_parts t p) z ≡ true → at p z ≡ 0 → ⊥
  unfolding turns
  turning_held z e = eqb-false (at p z) 0 (not-true (is_free p z) (and_left (not (is_free p z)) (loop_in t p (free_parts t p) (label (free_parts t p) (leave t (standing p z)))) e))

  -- a word that has the heading of what stands in its zone is its standing
  own_word : (w : ℕ) → heading_of w ≡ heading_of (at p (zone_of w)) → standing p (zone_of w) ≡ w
  own_word w e = omega (arith, word_parts w)

  module _ (w : ℕ) (h : w < 2 * t.zones) where
    -- over a word that a set goes on over, home's set goes on
    word_home : goes w ≡ true → Home t p (start t w) → Home t p (leave t w)
    word_home g i = by_zone (decided (is_free p (zone_of w)))
      where
        by_heading : (at p (zone_of w) ≡ 0 → ⊥) → (eqb (heading_of w) (heading_of (at p (zone_of w))) ≡ true) ⊎ (eqb (heading_of w) (heading_of (at p (zone_of w))) ≡ false) → Home t p (leave t w)
        by_heading held (inl e) =
            let own : heading_of w ≡ heading_of (at p (zone_of w)) = eqb-true (heading_of w) (heading_of (at p (zone_of w))) e in
            over_turning w h
            (turns_by_set (zone_of w) (zone_below t.zones w h) held ∙ ap (λ (x : ℕ). has_bit s (leave t x)) (own_word w own)
            ∙ sym (goes_by_set t.ends p true s w held refl own) ∙ g)
            i
        by_heading held (inr e) =
            let other : standing p (zone_of w) ≡ rev w = omega (arith, word_parts w, eqb-false (heading_of w) (heading_of (at p (zone_of w))) e) in
            behind (carrier_of (at p (zone_of w))) (rev w)
            (subst (λ (v : ℕ). Stands p (carrier_of (at p (zone_of w))) v) other
            (laid_stands t p laid (zone_of w) (zone_below t.zones w h) (ne_eqb (at p (zone_of w)) 0 held)))
            (subst (Home t p) (sym (leave_rev t w)) i)

        by_zone : (is_free p (zone_of w) ≡ true) ⊎ (is_free p (zone_of w) ≡ false) → Home t p (leave t w)
        by_zone (inl e) = over_free w h e i
        by_zone (inr e) = by_heading (eqb-false (at p (zone_of w)) 0 e) (decided (eqb (heading_of w) (heading_of (at p (zone_of w)))))

    -- a set goes on over a word whose zone turns
    turning_goes : turns t p (free_parts t p) (zone_of w) ≡ true → goes w ≡ true
    turning_goes e = by_heading (decided (eqb (heading_of w) (heading_of (at p (zone_of w)))))
      where
        held : at p (zone_of w) ≡ 0 → ⊥
        held = turning_held (zone_of w) e

        by_heading : (eqb (heading_of w) (heading_of (at p (zone_of w))) ≡ true) ⊎ (eqb (heading_of w) (heading_of (at p (zone_of w))) ≡ false) → goes w ≡ true
        by_heading (inl q) =
            let own : heading_of w ≡ heading_of (at p (zone_of w)) = eqb-true (heading_of w) (heading_of (at p (zone_of w))) q in
            goes_by_set t.ends p true s w held refl own ∙ ap (λ (x : ℕ). has_bit s (leave t x)) (sym (own_word w own))
            ∙ sym (turns_by_set (zone_of w) (zone_below t.zones w h) held) ∙ e
        by_heading (inr q) = goes_back t.ends p true s w held refl (eqb-false (heading_of w) (heading_of (at p (zone_of w))) q)

  -- a set goes back over a standing
  behind_goes : {c w : ℕ} → Stands p c w → goes (rev w) ≡ true
  behind_goes {c} {w} st =
      goes_back t.ends p true s (rev w)
      (λ e. stands_held st (ap (at p) (sym (zone_rev w)) ∙ e))
      refl
      (λ e.
      let same : 1 - heading_of w ≡ heading_of w = sym (heading_rev w) ∙ e ∙ ap (λ (z : ℕ). heading_of (at p z)) (zone_rev w) ∙ stands_heading st in
      omega (arith, heading_small w))

  module _ {ways : List ℕ} (o : WaysOn t.ends goes (2 * t.zones) ways) where
    reach_home : {q : ℕ} → Reach ways t.home q → Home t p q
    reach_home here = itself
    reach_home (on {q = a} {r = b} k e) =
        let w = o.sound a b e in
        subst (Home t p) w.4 (word_home w.0 w.1 w.2 (subst (Home t p) (sym w.3) (reach_home k)))

    home_reach : {q : ℕ} → Home t p q → Reach ways t.home q
    home_reach itself = here
    home_reach (over_free w h f i) = on (home_reach i) (o.whole w h (goes_over_free t.ends p true s w (eqb-true (at p (zone_of w)) 0 f)))
    home_reach (over_turning w h e i) = on (home_reach i) (o.whole w h (turning_goes w h e))
    home_reach (behind c w st i) =
        subst (Reach ways t.home) (leave_rev t w)
        (on (home_reach i) (o.whole (rev w) (rev_below t.zones w (stands_below t p laid st)) (behind_goes st)))

    pub grown_home : {r : ℕ} → Grown ways t.home r → HomeWord t p r
    grown_home g = record { word = g.word; sound = λ q e. reach_home (g.sound q e); whole = λ q i. g.whole q (home_reach i) }

-- Left by the collapse, left by the search: while every carrier that leaves outside home's set is out, none of them can go.
-- It goes on outside the set over zones free from the start, or over its own; to come back to its own it needs a loop, and then both its ends are outside.
use Prim.Native.Nat.{ℕ, ◌*◌, ◌<◌}
use mathlib.Core.List.{List, [], ◌∷◌}
use mathlib.Core.Path.{◌≡◌, refl, sym, ◌∙◌, ap, subst}
use mathlib.Core.Logic.{◌⊎◌, inl, inr}
use mathlib.Core.Bool.{Bool, true, false, true≢false}
use borrow.Author.Tests.{eqb-false}
use Rattle.model.specs.Track.{Track, zone_of, rev, start, leave}
use Rattle.model.specs.Position.{Position, at, carrier_of, is_free, Stands, standing}
use Rattle.model.specs.Labels.{label}
use Rattle.model.specs.Accepted.{Laid}
use Rattle.rules.specs.Routes.{UngatedStep, Onward, arrives, goes, Route, route}
use Rattle.rules.specs.Tries.{CanGo}
use Rattle.rules.specs.Collapse.{free_parts, loop_in, turns}
use Rattle.model.proofs.WordLaws.{zone_rev, rev_below, zone_below, leave_rev, same_zone}
use Rattle.model.proofs.PositionLaws.{stands_carrier, stands_below, stands_not_free, laid_stands}
use Rattle.order.proofs.Within.{Within, stands_before}
use Rattle.turning.specs.Walks.{AnotherZone, Walk, stay, go}
use Rattle.blocking.proofs.Standings.{standing_zone, held_stands}
use Rattle.blocking.proofs.HomeSet.{Closed}
use Rattle.blocking.proofs.Loops.{turns_loop, no_loop_stays}

-- how a carrier with standing e came to word w: back from there over free zones to where e leaves
record Trail (t : Track) (p : Position) (H : ℕ → Type 0) (e w : ℕ) : Type 0 where
  words : List ℕ
  walk : Walk t (is_free p) (leave t w) words (leave t e)
  apart : (v : ℕ) → (zone_of v ≡ zone_of w → ⊥) → AnotherZone (rev v) words
  begun : words ≡ [] → zone_of w ≡ zone_of e
  outside : H (leave t w) → ⊥

module _ {t : Track} {p q : Position} (laid : Laid t p) {H : ℕ → Type 0} (closed : Closed t p H) (within : Within q p)
    (still : (d w : ℕ) → Stands p d w → (H (leave t w) → ⊥) → Stands q d w) where
  -- a zone that is free now, with an end outside, was free from the start
  free_before : (v : ℕ) → v < 2 * t.zones → is_free q (zone_of v) ≡ true → (H (start t v) → ⊥) → is_free p (zone_of v) ≡ true
  free_before v h f out = by (is_free p (zone_of v)) refl
    where
      x : ℕ
      x = standing p (zone_of v)

      leaves_out : Stands p (carrier_of (at p (zone_of v))) x → (v ≡ x) ⊎ (v ≡ rev x) → H (leave t x) → ⊥
      leaves_out s (inl e) i = out (subst (λ (y : ℕ). H (start t y)) (sym e) (closed.behind (carrier_of (at p (zone_of v))) x s i))
      leaves_out s (inr e) i = out (subst (λ (y : ℕ). H (start t y)) (sym e) i)

      never : Stands p (carrier_of (at p (zone_of v))) x → ⊥
      never s =
          let out-x : H (leave t x) → ⊥ = leaves_out s (same_zone v x (sym (standing_zone p (zone_of v)))) in
          let held : is_free q (zone_of x) ≡ false = stands_not_free (still (carrier_of (at p (zone_of v))) x s out-x) in
          true≢false (sym f ∙ ap (is_free q) (sym (standing_zone p (zone_of v))) ∙ held)

      by : (b : Bool) → is_free p (zone_of v) ≡ b → is_free p (zone_of v) ≡ true
      by true g = g
      by false g = absurd (never (laid_stands t p laid (zone_of v) (zone_below t.zones v h) g))

  -- over such a zone one stays outside
  out_over : (v : ℕ) → v < 2 * t.zones → is_free p (zone_of v) ≡ true → (H (start t v) → ⊥) → H (leave t v) → ⊥
  out_over v h f out i =
      out (subst H (leave_rev t v) (closed.over_free (rev v) (rev_below t.zones v h) (ap (is_free p) (zone_rev v) ∙ f) i))

  module _ (c e : ℕ) (stands : Stands p c e) (leaves : H (leave t e) → ⊥) where
    -- a step into a held zone is a step into its own
    own_zone : {w v : ℕ} → UngatedStep t q c w v → is_free q (zone_of v) ≡ false → zone_of v ≡ zone_of e
    own_zone {w} {v} st held = sym (standing_zone p (zone_of v)) ∙ ap zone_of (laid.once c (standing p (zone_of v)) e mine stands)
      where
        there : Stands q (carrier_of (at p (zone_of v))) (standing p (zone_of v))
        there = held_stands laid within (zone_of v) (zone_below t.zones v st.word) held

        is_c : (at q (zone_of v) ≡ 0) ⊎ (carrier_of (at q (zone_of v)) ≡ c) → carrier_of (at p (zone_of v)) ≡ c
        is_c (inl z) = absurd (eqb-false (at q (zone_of v)) 0 held z)
        is_c (inr m) = sym (stands_carrier there) ∙ ap (λ (z : ℕ). carrier_of (at q z)) (standing_zone p (zone_of v)) ∙ m

        mine : Stands p c (standing p (zone_of v))
        mine = subst (λ (d : ℕ). Stands p d (standing p (zone_of v))) (is_c st.clear) (stands_before within there)

    -- with a loop in its part it stays outside: both ends of its zone are
    module _ (turning : turns t p (free_parts t p) (zone_of e) ≡ true) where
      stays_out : {w v : ℕ} → UngatedStep t q c w v → (H (leave t w) → ⊥) → H (leave t v) → ⊥
      stays_out {w} {v} st out = by (is_free q (zone_of v)) refl
        where
          out_start : H (start t v) → ⊥
          out_start i = out (subst H st.touches i)

          own : (v ≡ e) ⊎ (v ≡ rev e) → H (leave t v) → ⊥
          own (inl m) i = leaves (subst (λ (y : ℕ). H (leave t y)) m i)
          own (inr m) i =
              leaves (closed.over_turning e (stands_below t p laid stands) turning (subst H (leave_rev t e) (subst (λ (y : ℕ). H (leave t y)) m i)))

          by : (b : Bool) → is_free q (zone_of v) ≡ b → H (leave t v) → ⊥
          by true f = out_over v st.word (free_before v st.word f out_start) out_start
          by false f = own (same_zone v e (own_zone st f))

      never_home : {w : ℕ} {vs : List ℕ} → Onward t q c w vs → (H (leave t w) → ⊥) → ⊥
      never_home (arrives l) out = out (subst H (sym l) closed.has_home)
      never_home (goes st on) out = never_home on (stays_out st.ungated out)

    -- with none it never comes back to its own zone but by its start
    module _ (straight : turns t p (free_parts t p) (zone_of e) ≡ false) where
      no_loop : loop_in t p (free_parts t p) (label (free_parts t p) (leave t e)) ≡ false
      no_loop = sym (turns_loop t (free_parts t p) stands) ∙ straight

      at_first : Trail t p H e e
      at_first = record { words = []; walk = stay; apart = λ v n. tt; begun = λ n. refl; outside = leaves }

      trail_on : {w v : ℕ} → UngatedStep t q c w v → Trail t p H e w → Trail t p H e v
      trail_on {w} {v} st k = by (is_free q (zone_of v)) refl
        where
          out_start : H (start t v) → ⊥
          out_start i = k.outside (subst H st.touches i)

          free_on : is_free p (zone_of v) ≡ true → Trail t p H e v
          free_on f =
              record {
                words = rev v ∷ k.words;
                walk =
                    go (rev v) (rev_below t.zones v st.word) (ap (is_free p) (zone_rev v) ∙ f) refl (k.apart v st.another)
                    (subst (λ (u : ℕ). Walk t (is_free p) u k.words (leave t e)) (sym (leave_rev t v ∙ st.touches)) k.walk);
                apart = λ x n m. n (sym (zone_rev x) ∙ sym m ∙ zone_rev v);
                begun = λ n. cc;
                outside = out_over v st.word f out_start;
              }

          own : (v ≡ e) ⊎ (v ≡ rev e) → Trail t p H e v
          own (inl m) = subst (Trail t p H e) (sym m) at_first
          own (inr m) = absurd (st.another (ap zone_of m ∙ zone_rev e ∙ sym (k.begun stayed)))
            where
              round : Walk t (is_free p) (leave t e) k.words (leave t e)
              round = subst (λ (u : ℕ). Walk t (is_free p) u k.words (leave t e)) (sym st.touches ∙ ap (start t) m) k.walk

              stayed : k.words ≡ []
              stayed = no_loop_stays laid (leave t e) (laid.inside (rev e) (rev_below t.zones e (stands_below t p laid stands))) no_loop k.words round

          by : (b : Bool) → is_free q (zone_of v) ≡ b → Trail t p H e v
          by true f = free_on (free_before v st.word f out_start)
          by false f = own (same_zone v e (own_zone st f))

      never_straight : {w : ℕ} {vs : List ℕ} → Onward t q c w vs → Trail t p H e w → ⊥
      never_straight (arrives l) k = k.outside (subst H (sym l) closed.has_home)
      never_straight (goes st on) k = never_straight on (trail_on st.ungated k)

    never_goes : {vs : List ℕ} → Onward t q c e vs → ⊥
    never_goes on = by (turns t p (free_parts t p) (zone_of e)) refl
      where
        by : (b : Bool) → turns t p (free_parts t p) (zone_of e) ≡ b → ⊥
        by true r = never_home r on leaves
        by false r = never_straight r on (at_first r)

  no_route : (c e : ℕ) → Stands p c e → (H (leave t e) → ⊥) → {r : List ℕ} → Route t q c r → ⊥
  no_route c e stands leaves (route {w = w} {vs = vs} s on) =
      never_goes c e stands leaves (subst (λ (x : ℕ). Onward t q c x vs) (laid.once c w e (stands_before within s) stands) on)

  -- no carrier that leaves outside can go
  pub left_stays : (c e : ℕ) → Stands p c e → (H (leave t e) → ⊥) → CanGo t q c → ⊥
  left_stays c e stands leaves r = no_route c e stands leaves r.1

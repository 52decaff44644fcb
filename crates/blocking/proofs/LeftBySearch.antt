-- Left by the search, left by the collapse: where none can go any more, the points joined to home over free zones are closed as home's set is.
-- So home's set lies within them, and a carrier that leaves at one of its points would have gone.
use Prim.Native.Nat.{ℕ, ◌*◌, ◌<◌}
use mathlib.Core.List.{List, []}
use mathlib.Core.Path.{◌≡◌, refl, sym, ◌∙◌, ap, subst}
use mathlib.Core.Logic.{◌⊎◌, inl, inr}
use mathlib.Core.Bool.{Bool, true, false}
use Rattle.model.specs.Track.{Track, Linked, here, over, zone_of, rev, start, leave}
use Rattle.model.specs.Position.{Position, at, carrier_of, is_free, Stands, standing}
use Rattle.model.specs.Labels.{label}
use Rattle.model.specs.Accepted.{Laid}
use Rattle.rules.specs.Tries.{NoneCanGo}
use Rattle.rules.specs.Collapse.{free_parts, loop_in, turns}
use Rattle.model.proofs.WordLaws.{zone_rev, rev_below, zone_below, leave_rev, same_zone}
use Rattle.model.proofs.PositionLaws.{stands_below}
use Rattle.order.proofs.Within.{Within, stands_before}
use Rattle.turning.specs.Walks.{Walk}
use Rattle.turning.proofs.WalkLaws.{widen}
use Rattle.blocking.proofs.Standings.{standing_zone, within_free, still_stands, held_stands}
use Rattle.blocking.proofs.HomeSet.{Closed, HomeSet}
use Rattle.blocking.proofs.Loops.{turns_loop, loop_turns}
use Rattle.blocking.proofs.WaysHome.{goes_on_lem, goes_back}

module _ {t : Track} {p q : Position} (laid : Laid t p) (within : Within q p) (none : NoneCanGo t q) where
  -- joined to home over free zones of q
  abbrev Near : ℕ → Type 0
  Near v = Linked t (λ z. is_free q z ≡ true) v t.home

  word_of : {c w : ℕ} → Stands q c w → w < 2 * t.zones
  word_of s = stands_below t p laid (stands_before within s)

  -- a carrier that leaves at such a point could go
  leaves_far : {c w : ℕ} → Stands q c w → Near (leave t w) → ⊥
  leaves_far {c} s near = none c (goes_on_lem s near)

  -- so could one that turns, where it starts at such a point
  starts_far : {c w : ℕ} → Stands q c w → turns t p (free_parts t p) (zone_of w) ≡ true → Near (start t w) → ⊥
  starts_far {c} {w} s e near =
      none c (goes_back s (word_of s) (widen t (is_free p) (is_free q) (within_free within) turn.1) turn.2 near)
    where
      loop : loop_in t p (free_parts t p) (label (free_parts t p) (leave t w)) ≡ true
      loop = sym (turns_loop t (free_parts t p) (stands_before within s)) ∙ e

      turn : (ws : List ℕ) × Walk t (is_free p) (leave t w) ws (leave t w) × (ws ≡ [] → ⊥)
      turn = loop_turns laid (leave t w) (laid.inside (rev w) (rev_below t.zones w (word_of s))) loop

  -- over a free zone of q, either way
  back_over : (w : ℕ) → w < 2 * t.zones → is_free q (zone_of w) ≡ true → Near (leave t w) → Near (start t w)
  back_over w h f near = over w h f refl near

  forth_over : (w : ℕ) → w < 2 * t.zones → is_free q (zone_of w) ≡ true → Near (start t w) → Near (leave t w)
  forth_over w h f near =
      back_over (rev w) (rev_below t.zones w h) (ap (is_free q) (zone_rev w) ∙ f) (subst Near (sym (leave_rev t w)) near)

  turning_over : (w : ℕ) → w < 2 * t.zones → turns t p (free_parts t p) (zone_of w) ≡ true → Near (start t w) → Near (leave t w)
  turning_over w h e near = by (is_free q (zone_of w)) refl
    where
      never : Stands q (carrier_of (at p (zone_of w))) (standing p (zone_of w)) → (w ≡ standing p (zone_of w)) ⊎ (w ≡ rev (standing p (zone_of w))) → ⊥
      never s (inl x) =
          starts_far s (ap (turns t p (free_parts t p)) (sym (ap zone_of x)) ∙ e) (subst (λ (v : ℕ). Near (start t v)) x near)
      never s (inr x) = leaves_far s (subst (λ (v : ℕ). Near (start t v)) x near)

      by : (b : Bool) → is_free q (zone_of w) ≡ b → Near (leave t w)
      by true f = forth_over w h f near
      by false f = absurd (never (held_stands laid within (zone_of w) (zone_below t.zones w h) f) (same_zone w (standing p (zone_of w)) (sym (standing_zone p (zone_of w)))))

  behind_over : (c w : ℕ) → Stands p c w → Near (leave t w) → Near (start t w)
  behind_over c w s near = by (is_free q (zone_of w)) refl
    where
      by : (b : Bool) → is_free q (zone_of w) ≡ b → Near (start t w)
      by true f = back_over w (stands_below t p laid s) f near
      by false f = absurd (leaves_far (still_stands within s f) near)

  near_closed : Closed t p Near
  near_closed =
      record {
        has_home = here;
        over_free = λ w h f. forth_over w h (within_free within (zone_of w) f);
        over_turning = turning_over;
        behind = behind_over;
      }

  -- a carrier that leaves at a point of home's set is home where none can go
  pub home_leaves_home : {H : ℕ → Type 0} → HomeSet t p H → (c w : ℕ) → Stands q c w → H (leave t w) → ⊥
  home_leaves_home home c w s inside =
      leaves_far s (home.least Near near_closed (leave t w) (laid.inside (rev w) (rev_below t.zones w (word_of s))) inside)

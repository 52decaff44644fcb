-- What the proofs of this crate share of standings: tests of free zones as facts, and what still stands in a position within another.
-- Each is one step from the laws of positions.
use Prim.Native.Nat.{ℕ, ◌+◌, ◌*◌, ◌<◌}
use mathlib.Core.Path.{◌≡◌, refl, sym, ◌∙◌, ap, subst}
use mathlib.Core.Logic.{◌⊎◌, inl, inr}
use mathlib.Core.Bool.{Bool, true, false, true≢false}
use native.Mathlib.Omega.{arith}
use borrow.Author.Tests.{eqb-true, eqb-false, eq-eqb}
use Rattle.model.specs.Track.{Track, zone_of, heading_of}
use Rattle.model.specs.Position.{Position, at, carrier_of, is_free, Stands, standing}
use Rattle.model.specs.Accepted.{Laid}
use Rattle.model.proofs.PositionLaws.{laid_stands}
use Rattle.order.proofs.Within.{Within}

pub free_number : (p : Position) (z : ℕ) → is_free p z ≡ true → at p z ≡ 0
free_number p z e = eqb-true (at p z) 0 e

pub number_free : (p : Position) (z : ℕ) → at p z ≡ 0 → is_free p z ≡ true
number_free p z e = eq-eqb (at p z) 0 e

pub standing_zone : (p : Position) (z : ℕ) → zone_of (standing p z) ≡ z
standing_zone p z = omega arith

pub within_free : {p q : Position} → Within q p → (z : ℕ) → is_free p z ≡ true → is_free q z ≡ true
within_free {p} {q} within z e = by (within.kept z)
  where
    by : (at q z ≡ at p z) ⊎ (at q z ≡ 0) → is_free q z ≡ true
    by (inl a) = number_free q z (a ∙ free_number p z e)
    by (inr a) = number_free q z a

-- in a zone still held its carrier stands as before
pub still_stands : {p q : Position} {c w : ℕ} → Within q p → Stands p c w → is_free q (zone_of w) ≡ false → Stands q c w
still_stands {p} {q} {c} {w} within s held =
    record {
      numbered = s.numbered;
      inside = subst (λ (n : ℕ). zone_of w < n) (sym within.as_long) s.inside;
      holds = by (within.kept (zone_of w));
    }
  where
    by : (at q (zone_of w) ≡ at p (zone_of w)) ⊎ (at q (zone_of w) ≡ 0) → at q (zone_of w) ≡ 2 * c + heading_of w
    by (inl e) = e ∙ s.holds
    by (inr e) = absurd (eqb-false (at q (zone_of w)) 0 held e)

pub held_stands : {t : Track} {p q : Position} → Laid t p → Within q p → (z : ℕ) → z < t.zones → is_free q z ≡ false → Stands q (carrier_of (at p z)) (standing p z)
held_stands {t} {p} {q} laid within z h held = still_stands within (laid_stands t p laid z h (by (is_free p z) refl)) (ap (is_free q) (standing_zone p z) ∙ held)
  where
    by : (b : Bool) → is_free p z ≡ b → is_free p z ≡ false
    by true e = absurd (true≢false (sym (within_free within z e) ∙ held))
    by false e = e

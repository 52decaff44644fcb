-- Fewer carriers, more routes: a route of a carrier is one after any other carriers are taken off.
-- And a carrier that is not out in a position within may be taken off before.
use Prim.Native.Nat.{ℕ}
use mathlib.Core.Path.{◌≡◌, refl, sym, ap, ◌∙◌}
use mathlib.Core.List.{List}
use mathlib.Core.Bool.{Bool, true, false}
use mathlib.Core.Logic.{◌⊎◌, inl, inr}
use lib.ListN.{length, get_or-eq_default}
use lib.Dec.{eqb, ltb}
use borrow.Author.Tests.{eqb-true, ne_eqb, ltb-true, ltb-false}
use Rattle.model.specs.Track.{Track}
use Rattle.model.specs.Position.{Position, at, carrier_of, Out, without, retire}
use Rattle.model.proofs.PositionLaws.{at_without_kept, length_without, without_stands}
use Rattle.rules.specs.Routes.{Route, route}
use Rattle.rules.proofs.Standing.{stands_in}
use Rattle.order.proofs.Within.{Within, within_without, onward_within}

-- for any set of carriers taken off
pub route_without : {t : Track} {p : Position} {c : ℕ} {r : List ℕ} (g : ℕ → Bool) → Route t p c r → g c ≡ false → Route t (without g p) c r
route_without {p = p} g (route s o) e = route (without_stands g s e) (onward_within (within_without g p) o)

-- for one carrier taken off
pub route_retire : {t : Track} {p : Position} {c : ℕ} {r : List ℕ} (d : ℕ) → Route t p c r → (c ≡ d → ⊥) → Route t (retire d p) c r
route_retire {c = c} d r other = route_without (eqb d) r (ne_eqb d c (λ e. other (sym e)))

pub within_retired : (c : ℕ) (p : Position) → Within (retire c p) p
within_retired c p = within_without (eqb c) p

pub within_retire : {q p : Position} (c : ℕ) → Within q p → (c ≡ 0 → ⊥) → (Out q c → ⊥) → Within q (retire c p)
within_retire {q} {p} c a numbered home = record { as_long = a.as_long ∙ sym (length_without (eqb c) p); kept = λ z. test z (eqb c (carrier_of (at p z))) refl }
  where
    free : (z : ℕ) → c ≡ carrier_of (at q z) → (b : Bool) → ltb z (length q) ≡ b → at q z ≡ 0
    free z e true i = absurd (home (_, stands_in q c z numbered (ltb-true _ _ i) (sym e)))
    free z e false i = get_or-eq_default q 0 (ltb-false _ _ i)

    own : (z : ℕ) → c ≡ carrier_of (at p z) → (at q z ≡ at p z) ⊎ (at q z ≡ 0) → at q z ≡ 0
    own z e (inl f) = free z (e ∙ ap carrier_of (sym f)) (ltb z (length q)) refl
    own z e (inr f) = f

    other : (z : ℕ) → at (retire c p) z ≡ at p z → (at q z ≡ at p z) ⊎ (at q z ≡ 0) → (at q z ≡ at (retire c p) z) ⊎ (at q z ≡ 0)
    other z e (inl f) = inl (f ∙ sym e)
    other z e (inr f) = inr f

    test : (z : ℕ) (b : Bool) → eqb c (carrier_of (at p z)) ≡ b → (at q z ≡ at (retire c p) z) ⊎ (at q z ≡ 0)
    test z true e = inr (own z (eqb-true c _ e) (a.kept z))
    test z false e = other z (at_without_kept (eqb c) p z e) (a.kept z)

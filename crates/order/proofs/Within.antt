-- One position is within another when each zone holds what it held there, or is free. Retirements and tries lead to positions within the first.
-- A route of a carrier stays a route in every position within, while the carrier is out there.
use Prim.Native.Nat.{ℕ, ◌+◌, ◌*◌}
use mathlib.Core.Path.{◌≡◌, refl, sym, ap, ◌∙◌}
use mathlib.Core.List.{List}
use mathlib.Core.Bool.{Bool, true, false}
use mathlib.Core.Logic.{◌⊎◌, inl, inr}
use native.Mathlib.Omega.{arith}
use lib.ListN.{length}
use Rattle.model.specs.Track.{Track, zone_of, heading_of}
use Rattle.model.specs.Position.{Position, at, carrier_of, Stands, Out, Once, without}
use Rattle.model.specs.Accepted.{Laid}
use Rattle.rules.specs.Routes.{UngatedStep, Step, Onward, Route, arrives, goes, route}
use Rattle.model.proofs.PositionLaws.{at_without_gone, at_without_kept, length_without}

pub record Within (q p : Position) : Type 0 where
  pub as_long : length q ≡ length p
  pub kept : (z : ℕ) → (at q z ≡ at p z) ⊎ (at q z ≡ 0)

pub within_self : (p : Position) → Within p p
within_self p = record { as_long = refl; kept = λ z. inl refl }

pub within_trans : {r q p : Position} → Within r q → Within q p → Within r p
within_trans {r} {q} {p} a b = record { as_long = a.as_long ∙ b.as_long; kept = λ z. go z (a.kept z) (b.kept z) }
  where
    go : (z : ℕ) → (at r z ≡ at q z) ⊎ (at r z ≡ 0) → (at q z ≡ at p z) ⊎ (at q z ≡ 0) → (at r z ≡ at p z) ⊎ (at r z ≡ 0)
    go z (inr e) y = inr e
    go z (inl e) (inl f) = inl (e ∙ f)
    go z (inl e) (inr f) = inr (e ∙ f)

pub within_without : (g : ℕ → Bool) (p : Position) → Within (without g p) p
within_without g p = record { as_long = length_without g p; kept = λ z. go z (g (carrier_of (at p z))) refl }
  where
    go : (z : ℕ) (b : Bool) → g (carrier_of (at p z)) ≡ b → (at (without g p) z ≡ at p z) ⊎ (at (without g p) z ≡ 0)
    go z true e = inr (at_without_gone g p z e)
    go z false e = inl (at_without_kept g p z e)

-- what stands in the position within stood there before
pub stands_before : {q p : Position} {c w : ℕ} → Within q p → Stands q c w → Stands p c w
stands_before {q} {p} {c} {w} a s = record { numbered = s.numbered; inside = rw a.as_long at s.inside; holds = go (a.kept (zone_of w)) }
  where
    go : (at q (zone_of w) ≡ at p (zone_of w)) ⊎ (at q (zone_of w) ≡ 0) → at p (zone_of w) ≡ 2 * c + heading_of w
    go (inl e) = sym e ∙ s.holds
    go (inr e) = absurd (s.numbered (omega (arith, s.holds)))

clear_within : {q p : Position} (c z : ℕ) → Within q p → (at p z ≡ 0) ⊎ (carrier_of (at p z) ≡ c) → (at q z ≡ 0) ⊎ (carrier_of (at q z) ≡ c)
clear_within {q} {p} c z a h = go (a.kept z) h
  where
    go : (at q z ≡ at p z) ⊎ (at q z ≡ 0) → (at p z ≡ 0) ⊎ (carrier_of (at p z) ≡ c) → (at q z ≡ 0) ⊎ (carrier_of (at q z) ≡ c)
    go (inr e) y = inl e
    go (inl e) (inl f) = inl (e ∙ f)
    go (inl e) (inr f) = inr (ap carrier_of e ∙ f)

ungated_within : {t : Track} {q p : Position} {c w v : ℕ} → Within q p → UngatedStep t p c w v → UngatedStep t q c w v
ungated_within {c = c} {v = v} a s = record { word = s.word; touches = s.touches; another = s.another; clear = clear_within c (zone_of v) a s.clear }

pub step_within : {t : Track} {q p : Position} {c w v : ℕ} → Within q p → Step t p c w v → Step t q c w v
step_within a s = record { ungated = ungated_within a s.ungated; gate = s.gate }

pub onward_within : {t : Track} {q p : Position} {c w : ℕ} {vs : List ℕ} → Within q p → Onward t p c w vs → Onward t q c w vs
onward_within a (arrives e) = arrives e
onward_within a (goes s o) = goes (step_within a s) (onward_within a o)

-- a carrier that the position within has out has its route there
pub route_within : {t : Track} {q p : Position} {c : ℕ} {r : List ℕ} → Once p → Within q p → Out q c → Route t p c r → Route t q c r
route_within {q = q} {c = c} once a out (route {w = w} s o) =
    let same : out.0 ≡ w = once c out.0 w (stands_before a out.1) s in
    route (rw same at out.1) (onward_within a o)

pub once_within : {q p : Position} → Within q p → Once p → Once q
once_within a once c w v s r = once c w v (stands_before a s) (stands_before a r)

-- a position within a laid one is laid
pub laid_within : {t : Track} {q p : Position} → Within q p → Laid t p → Laid t q
laid_within {t} {q} {p} a laid = record {
  each = a.as_long ∙ laid.each;
  once = once_within a laid.once;
  free_heading = λ z e. free_heading z e (a.kept z);
  inside = laid.inside;
  home_in = laid.home_in;
}
  where
    free_heading : (z : ℕ) → at q z ≡ 1 → (at q z ≡ at p z) ⊎ (at q z ≡ 0) → ⊥
    free_heading z e (inl f) = laid.free_heading z (sym f ∙ e)
    free_heading z e (inr f) = omega arith

-- What is left of a position when every carrier that leaves at a point of home's set is taken off: the carriers that the collapse leaves.
-- By the theorem that any home's set gives the collapse's list, zone by zone.
use Prim.Native.Nat.{ℕ, ◌<◌}
use mathlib.Core.Path.{◌≡◌, refl, sym, ap, ◌∙◌, subst₂}
use mathlib.Core.List.{List, [], ◌∷◌, map}
use mathlib.Core.Logic.{◌⊎◌, inl, inr}
use mathlib.Core.Bool.{Bool, true, false, not, cond, ◌&&◌, and-false}
use native.Mathlib.Omega.{arith}
use borrow.Author.Tests.{eqb-true, eqb-false, ne_eqb, ltb-true, ltb-false}
use lib.ListN.{length, get_or-eq_default}
use lib.Dec.{eqb, ltb}
use Rattle.model.specs.Lists.{numbers_below, cons_if, keep, ascending}
use Rattle.model.specs.Track.{Track}
use Rattle.model.specs.Position.{Position, at, carrier_of, is_free, outs}
use Rattle.model.specs.Accepted.{Laid}
use Rattle.model.proofs.BoolLaws.{decided}
use Rattle.model.proofs.PositionLaws.{laid_numbered}
use Rattle.rules.specs.Collapse.{left}
use Rattle.blocking.proofs.AnySet.{left_by_test}
use Rattle.bits.specs.Sets.{has_bit}
use Rattle.parts.specs.Home.{HomeWord, leaves_at, left_position}
use Rattle.parts.proofs.HomeLeast.{word_least}
use Rattle.parts.proofs.TakenOff.{left_at, length_left, at_left}

-- a zone is as it was, or free
pub left_cases : (ends : List ℕ) (s : ℕ) (p : Position) (z : ℕ) → (at (left_position ends s p) z ≡ at p z) ⊎ (at (left_position ends s p) z ≡ 0)
left_cases ends s p z = go (decided (ltb z (length p)))
  where
    by : z < length p → (b : Bool) → has_bit s (leaves_at ends p z) ≡ b → (at (left_position ends s p) z ≡ at p z) ⊎ (at (left_position ends s p) z ≡ 0)
    by h true e = inr (at_left ends s p z h ∙ ap (λ (b : Bool). cond b 0 (at p z)) e)
    by h false e = inl (at_left ends s p z h ∙ ap (λ (b : Bool). cond b 0 (at p z)) e)

    go : (ltb z (length p) ≡ true) ⊎ (ltb z (length p) ≡ false) → (at (left_position ends s p) z ≡ at p z) ⊎ (at (left_position ends s p) z ≡ 0)
    go (inl e) = by (ltb-true z (length p) e) (has_bit s (leaves_at ends p z)) refl
    go (inr e) =
        inr (get_or-eq_default (left_position ends s p) 0 (omega (arith, length_left ends s p, ltb-false z (length p) e)))

module _ {t : Track} {p : Position} (laid : Laid t p) (s : ℕ) where
  -- a held zone whose carrier leaves outside the set
  abbrev outside : ℕ → Bool
  outside z = not (is_free p z) && not (has_bit s (leaves_at t.ends p z))

  abbrev held_by : ℕ → ℕ
  held_by z = carrier_of (at p z)

  abbrev numbered : ℕ → Bool
  numbered c = not (eqb c 0)

  -- zone by zone, the carriers left are those that leave outside
  kept : (l : List ℕ) → keep numbered (map carrier_of (map (left_at t.ends s p) l)) ≡ map held_by (keep outside l)
  kept [] = refl
  kept (z ∷ l) = go (decided (has_bit s (leaves_at t.ends p z))) (decided (is_free p z)) (kept l)
    where
      -- with what is left in the zone, and whether its carrier leaves outside
      Same : ℕ → Bool → Type 0
      Same v b =
          keep numbered (map carrier_of (map (left_at t.ends s p) l)) ≡ map held_by (keep outside l)
          → cons_if (numbered (carrier_of v)) (carrier_of v) (keep numbered (map carrier_of (map (left_at t.ends s p) l))) ≡ map held_by (cons_if b z (keep outside l))

      stays : is_free p z ≡ false → Same (at p z) true
      stays f ih =
          ap (λ (b : Bool). cons_if b (held_by z) (keep numbered (map carrier_of (map (left_at t.ends s p) l))))
          (ap not (ne_eqb (held_by z) 0 (laid_numbered t p laid z (eqb-false (at p z) 0 f))))
          ∙ ap (λ (r : List ℕ). held_by z ∷ r) ih

      go : (has_bit s (leaves_at t.ends p z) ≡ true) ⊎ (has_bit s (leaves_at t.ends p z) ≡ false) → (is_free p z ≡ true) ⊎ (is_free p z ≡ false)
          → Same (left_at t.ends s p z) (outside z)
      go (inl e) f =
          subst₂ Same (sym (ap (λ (b : Bool). cond b 0 (at p z)) e)) (sym (ap (λ (b : Bool). not (is_free p z) && not b) e ∙ and-false (not (is_free p z)))) (λ ih. ih)
      go (inr e) (inl f) =
          subst₂ Same (sym (ap (λ (b : Bool). cond b 0 (at p z)) e ∙ eqb-true (at p z) 0 f)) (sym (ap (λ (b : Bool). not b && not (has_bit s (leaves_at t.ends p z))) f)) (λ ih. ih)
      go (inr e) (inr f) =
          subst₂ Same (sym (ap (λ (b : Bool). cond b 0 (at p z)) e))
          (sym (ap (λ (b : Bool). not b && not (has_bit s (leaves_at t.ends p z))) f ∙ ap not e)) (stays f)

  pub outs_left : HomeWord t p s → outs (left_position t.ends s p) ≡ left t p
  unfolding left_position
  outs_left home = ap ascending (kept (numbers_below (length p))) ∙ ap (λ (n : ℕ). ascending (map held_by (keep outside (numbers_below n)))) laid.each ∙ sym (left_by_test laid (has_bit s) (word_least home))

-- Whether a set goes on over one word, case by case.
-- Each test of the definition is replaced by what it is.
use Prim.Native.Nat.{ℕ}
use mathlib.Core.Path.{◌≡◌, ap, ◌∙◌}
use mathlib.Core.List.{List}
use mathlib.Core.Bool.{Bool, true, false, not, ◌&&◌, ◌||◌, or-false}
use borrow.Author.Tests.{eq-eqb, ne_eqb}
use lib.Dec.{eqb}
use Rattle.model.specs.Track.{zone_of, heading_of}
use Rattle.model.specs.Position.{Position, at, is_free}
use Rattle.bits.specs.Sets.{has_bit}
use Rattle.parts.specs.Ways.{end_of, goes_on}

-- without merging a set goes on over free zones alone
pub goes_free : (ends : List ℕ) (p : Position) (s w : ℕ) → goes_on ends p false s w ≡ is_free p (zone_of w)
unfolding goes_on
goes_free ends p s w = or-false (is_free p (zone_of w))

module _ (ends : List ℕ) (p : Position) (m : Bool) (s w : ℕ) where
  pub goes_over_free : at p (zone_of w) ≡ 0 → goes_on ends p m s w ≡ true
  unfolding goes_on
  goes_over_free e = ap (λ (b : Bool). b || (m && (not (eqb (heading_of w) (heading_of (at p (zone_of w)))) || has_bit s (end_of ends w)))) (eq-eqb (at p (zone_of w)) 0 e)

  module _ (held : at p (zone_of w) ≡ 0 → ⊥) where
    goes_held : goes_on ends p m s w ≡ (m && (not (eqb (heading_of w) (heading_of (at p (zone_of w)))) || has_bit s (end_of ends w)))
    unfolding goes_on
    goes_held = ap (λ (b : Bool). b || (m && (not (eqb (heading_of w) (heading_of (at p (zone_of w)))) || has_bit s (end_of ends w)))) (ne_eqb (at p (zone_of w)) 0 held)

    pub goes_back : m ≡ true → (heading_of w ≡ heading_of (at p (zone_of w)) → ⊥) → goes_on ends p m s w ≡ true
    goes_back e n =
        goes_held ∙ ap (λ (b : Bool). b && (not (eqb (heading_of w) (heading_of (at p (zone_of w)))) || has_bit s (end_of ends w))) e
        ∙ ap (λ (b : Bool). not b || has_bit s (end_of ends w)) (ne_eqb (heading_of w) (heading_of (at p (zone_of w))) n)

    pub goes_by_set : m ≡ true → heading_of w ≡ heading_of (at p (zone_of w)) → goes_on ends p m s w ≡ has_bit s (end_of ends w)
    goes_by_set e n =
        goes_held ∙ ap (λ (b : Bool). b && (not (eqb (heading_of w) (heading_of (at p (zone_of w)))) || has_bit s (end_of ends w))) e
        ∙ ap (λ (b : Bool). not b || has_bit s (end_of ends w)) (eq-eqb (heading_of w) (heading_of (at p (zone_of w))) n)

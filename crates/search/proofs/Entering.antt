-- At the start of a carrier's search the enterable words are those of the free zones and its own zone the other way: all that it may enter, but for
-- its standing.
-- In its own zone a word is its standing or the other way; in another zone it may enter just where nobody stands, since it stands in one zone only.
use Prim.Native.Nat.{ℕ, ◌+◌, ◌*◌, ◌<◌}
use mathlib.Core.Path.{◌≡◌, refl, sym, ◌∙◌, ap, ap₂}
use mathlib.Core.List.{List}
use mathlib.Core.Bool.{Bool, true, false, not, ◌&&◌, ◌||◌, and-true}
use native.Mathlib.Omega.{arith}
use lib.ListN.{length}
use lib.Dec.{eqb}
use borrow.Author.Tests.{eqb-true, eqb-false, eq-eqb, ne_eqb, lt-ltb}
use Rattle.model.specs.Track.{zone_of, heading_of, rev}
use Rattle.model.specs.Position.{Position, at, carrier_of, is_free, Once}
use Rattle.model.proofs.PositionLaws.{held_stands}
use Rattle.rules.specs.Key.{may_enter}
use Rattle.queue.specs.WordSets.{in_set, Added, FreeWords}

module _ (p : Position) (once : Once p) (zone : ℕ) (inside : zone < length p) (numbered : carrier_of (at p zone) ≡ 0 → ⊥) where
  abbrev carrier : ℕ
  carrier = carrier_of (at p zone)

  abbrev standing : ℕ
  standing = 2 * zone + heading_of (at p zone)

  -- it stands in no other zone
  elsewhere : (z : ℕ) → z < length p → (z ≡ zone → ⊥) → eqb (carrier_of (at p z)) carrier ≡ false
  elsewhere z h d = ne_eqb (carrier_of (at p z)) carrier (λ e. d (same e))
    where
      same : carrier_of (at p z) ≡ carrier → z ≡ zone
      same e =
          let number : carrier_of (at p z) ≡ 0 → ⊥ = λ n. numbered (sym e ∙ n) in
          let word : 2 * z + heading_of (at p z) ≡ standing = once carrier (2 * z + heading_of (at p z)) standing (rw (sym e) (held_stands p z h number)) (held_stands p zone inside numbered) in
          omega arith

  -- the words enterable at first
  enters : (v : ℕ) → zone_of v < length p → (is_free p (zone_of v) || eqb v (rev standing)) ≡ (may_enter p carrier v && not (eqb v standing))
  enters v h = go (eqb (zone_of v) zone) refl
    where
      own : zone_of v ≡ zone → (t : Bool) → eqb v standing ≡ t → (is_free p (zone_of v) || eqb v (rev standing)) ≡ (may_enter p carrier v && not t)
      own e t d =
          ap₂ (λ (a b : Bool). a || b) held (other t d) ∙
          sym (ap (λ (b : Bool). b && not t) (ap₂ (λ (a b : Bool). a || b) held (eq-eqb _ _ (ap (λ (z : ℕ). carrier_of (at p z)) e))))
        where
          held : is_free p (zone_of v) ≡ false
          held = ne_eqb (at p (zone_of v)) 0 (λ f. numbered (ap (λ (z : ℕ). carrier_of (at p z)) (sym e) ∙ ap carrier_of f))

          other : (t : Bool) → eqb v standing ≡ t → eqb v (rev standing) ≡ not t
          other true d = let there : v ≡ standing = eqb-true v standing d in ne_eqb v (rev standing) (λ f. omega arith)
          other false d = let away : v ≡ standing → ⊥ = eqb-false v standing d in eq-eqb v (rev standing) (omega arith)

      go : (t : Bool) → eqb (zone_of v) zone ≡ t → (is_free p (zone_of v) || eqb v (rev standing)) ≡ (may_enter p carrier v && not (eqb v standing))
      go true e = own (eqb-true (zone_of v) zone e) (eqb v standing) refl
      go false e =
          let d : zone_of v ≡ zone → ⊥ = eqb-false (zone_of v) zone e in
          ap (λ (b : Bool). is_free p (zone_of v) || b) (ne_eqb v (rev standing) (λ f. d (omega arith)) ∙ sym (elsewhere (zone_of v) h d)) ∙
          sym (ap (λ (b : Bool). may_enter p carrier v && not b) (ne_eqb v standing (λ f. d (omega arith))) ∙ and-true (may_enter p carrier v))

  pub first_enterable : {free enterable : List ℕ} → FreeWords p free → {w : ℕ} → w ≡ rev standing → Added w free enterable → (v : ℕ) → zone_of v < length p
      → in_set enterable v ≡ (may_enter p carrier v && not (eqb v standing))
  first_enterable f e a v h = a.has v ∙ ap₂ (λ (s : Bool) (x : ℕ). s || eqb v x) (f.has v ∙ ap (λ (b : Bool). b && is_free p (zone_of v)) (lt-ltb (zone_of v) (length p) h)) e ∙ enters v h

-- What a free part is, and what its loop is for: into a part with a loop a carrier turns, in a part with none no walk comes back.
-- The labels of the collapse meet the linked points of the walks here; above this file no label is read.
use Prim.Native.Nat.{ℕ, ◌*◌, ◌<◌}
use mathlib.Core.List.{List, [], ◌∷◌, cons-ne-nil}
use mathlib.Core.Path.{◌≡◌, refl, sym, ◌∙◌, ap, ap₂, subst}
use mathlib.Core.Logic.{◌↔◌}
use mathlib.Core.Bool.{Bool, true, false, not, ◌&&◌}
use native.Mathlib.Omega.{arith}
use lib.Dec.{eqb, leb}
use borrow.Author.Tests.{eqb-true, eq-eqb, leb-true, leb-false}
use Rattle.model.specs.Lists.{numbers_below, how_many}
use Rattle.model.specs.Track.{Track, TurningLoop, Linked, zone_of, start, leave}
use Rattle.model.specs.Position.{Position, at, is_free, Stands, standing}
use Rattle.model.specs.Labels.{label}
use Rattle.model.specs.Accepted.{Laid}
use Rattle.rules.specs.Collapse.{free_parts, loop_in, turns}
use Rattle.model.proofs.BoolLaws.{same_test}
use Rattle.model.proofs.CountLaws.{how_many_below_ext}
use Rattle.model.proofs.WordLaws.{zone_first, first_below}
use Rattle.model.proofs.PositionLaws.{stands_word, stands_not_free}
use Rattle.model.proofs.LinkLaws.{linked_mono}
use Rattle.model.proofs.LabelLaws.{parts_linked, linked_parts}
use Rattle.turning.specs.Walks.{Walk, stay}
use Rattle.turning.proofs.Turning.{turns_with_loop, no_turn_without}
use Rattle.blocking.specs.FreeParts.{FreePart, LoopInPart}
use Rattle.blocking.proofs.Standings.{free_number, number_free}

-- a carrier turns where the part that it heads into holds a loop
pub turns_loop : (t : Track) (ls : List ℕ) {p : Position} {c w : ℕ} → Stands p c w → turns t p ls (zone_of w) ≡ loop_in t p ls (label ls (leave t w))
unfolding turns
turns_loop t ls {p} {c} {w} s =
    ap (λ (b : Bool). not b && loop_in t p ls (label ls (leave t (standing p (zone_of w))))) (stands_not_free s)
    ∙ ap (λ (v : ℕ). loop_in t p ls (label ls (leave t v))) (stands_word s)

module _ {t : Track} {p : Position} (laid : Laid t p) where
  -- two points have one label of the free parts where they are linked over zones that pass the test of a free zone
  pub part_linked : (r s : ℕ) → r < t.points → s < t.points → (label (free_parts t p) r ≡ label (free_parts t p) s) ↔ Linked t (λ z. is_free p z ≡ true) r s
  unfolding free_parts
  part_linked r s hr hs = (parts_linked t laid.inside (is_free p) r s hr hs, linked_parts t laid.inside (is_free p) r s hr)

  module _ (v : ℕ) (v-in : v < t.points) where
    -- the points of v's part, by their label
    abbrev within : ℕ → Bool
    within q = eqb (label (free_parts t p) q) (label (free_parts t p) v)

    within_linked : (q : ℕ) → q < t.points → (within q ≡ true) ↔ Linked t (λ z. is_free p z ≡ true) v q
    within_linked q h = (
      λ e. (part_linked v q v-in h).0 (sym (eqb-true (label (free_parts t p) q) (label (free_parts t p) v) e)),
      λ l. eq-eqb (label (free_parts t p) q) (label (free_parts t p) v) (sym ((part_linked v q v-in h).1 l)),
    )

    pub loop_turns : loop_in t p (free_parts t p) (label (free_parts t p) v) ≡ true → (ws : List ℕ) × Walk t (is_free p) v ws v × (ws ≡ [] → ⊥)
    unfolding loop_in
    loop_turns e = turns_with_loop t laid.inside (is_free p) v v-in within within_linked (leb-true _ _ e)

    pub no_loop_stays : loop_in t p (free_parts t p) (label (free_parts t p) v) ≡ false → (ws : List ℕ) → Walk t (is_free p) v ws v → ws ≡ []
    unfolding loop_in
    no_loop_stays e = no_turn_without t laid.inside (is_free p) v v-in within within_linked (leb-false _ _ e)

    -- the loop of v's part, by any test of its points
    pub loop_by_test : (test : ℕ → Bool) → ((q : ℕ) → q < t.points → (test q ≡ true) ↔ Linked t (λ z. is_free p z ≡ true) v q) → loop_in t p (free_parts t p) (label (free_parts t p) v) ≡ leb (how_many test (numbers_below t.points)) (how_many (λ z. is_free p z && test (start t (2 * z))) (numbers_below t.zones))
    unfolding loop_in
    loop_by_test test agrees =
        ap₂ leb (how_many_below_ext within test t.points same)
        (how_many_below_ext (λ z. is_free p z && within (start t (2 * z))) (λ z. is_free p z && test (start t (2 * z))) t.zones (λ z h. ap (λ (b : Bool). is_free p z && b) (same (start t (2 * z)) (laid.inside (2 * z) (omega arith)))))
      where
        same : (q : ℕ) → q < t.points → within q ≡ test q
        same q h = same_test (within q) (test q) (λ e. (agrees q h).1 ((within_linked q h).0 e)) (λ e. (within_linked q h).1 ((agrees q h).0 e))

  -- a free part is a greatest set of points linked over free zones
  pub free_part : (r s : ℕ) → r < t.points → s < t.points → (label (free_parts t p) r ≡ label (free_parts t p) s) ↔ Linked t (λ z. at p z ≡ 0) r s
  free_part r s hr hs =
      (λ e. linked_mono t (λ z h. free_number p z) ((part_linked r s hr hs).0 e), λ l. (part_linked r s hr hs).1 (linked_mono t (λ z h. number_free p z) l))

  -- a free part with a turning loop holds a loop. Once round it is a walk that comes back.
  pub turning_loop : (z : ℕ) → z < t.zones → TurningLoop t z → at p z ≡ 0 → loop_in t p (free_parts t p) (label (free_parts t p) (start t (2 * z))) ≡ true
  turning_loop z h l free = go (loop_in t p (free_parts t p) (label (free_parts t p) point)) refl
    where
      point : ℕ
      point = start t (2 * z)

      below : 2 * z < 2 * t.zones
      below = first_below t.zones z h

      round : Walk t (is_free p) point (2 * z ∷ []) point
      round = Walk.go (2 * z) below (ap (is_free p) (zone_first z) ∙ number_free p z free) refl tt (subst (λ x. Walk t (is_free p) x [] point) l stay)

      go : (b : Bool) → loop_in t p (free_parts t p) (label (free_parts t p) point) ≡ b → b ≡ true
      go true e = refl
      go false e = absurd (cons-ne-nil (2 * z) [] (no_loop_stays point (laid.inside (2 * z) below) e (2 * z ∷ []) round))

-- both of every position laid on a track, as they are promised

pub each_free_part : FreePart
each_free_part t p laid = free_part laid

pub loop_in_part : LoopInPart
loop_in_part t p laid = turning_loop laid

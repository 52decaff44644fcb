-- The theorems of turning, for the points linked to a point v over zones that pass, counted on the track (that linked points have a walk is in WalkLaws).
-- The whole part grown from v has just these points and zones, so its lengths are the counts.
use Prim.Native.Nat.{ℕ, ◌+◌, ◌*◌, ◌≤◌, ◌<◌}
use mathlib.Core.List.{List, []}
use mathlib.Core.Path.{◌≡◌, sym, ◌∙◌}
use mathlib.Core.Bool.{Bool, true, ◌&&◌}
use mathlib.Core.Logic.{◌↔◌}
use native.Mathlib.Omega.{arith}
use lib.ListN.{length}
use Rattle.model.specs.Track.{Track, Linked, start}
use Rattle.model.proofs.WordLaws.{zone_first, first_below}
use Rattle.model.proofs.BoolLaws.{and_left, and_right, same_test}
use Rattle.model.proofs.CountLaws.{how_many_below_ext}
use Rattle.turning.specs.Walks.{Walk, points_within, zones_within}
use Rattle.turning.proofs.Members.{elem}
use Rattle.turning.proofs.WalkLaws.{widen}
use Rattle.turning.proofs.OneMore.{among}
use Rattle.turning.proofs.Part.{first_inside, zones_pass, ends_inside, enough, turn, no_turn}
use Rattle.turning.proofs.Whole.{WholePart, whole, zones_counted, points_counted, linked_inside, inside_linked, walks_inside}

module _ (t : Track) (inside : (w : ℕ) → w < 2 * t.zones → start t w < t.points) (passes : ℕ → Bool)
    (v : ℕ) (v-inside : v < t.points) (within : ℕ → Bool)
    (agrees : (q : ℕ) → q < t.points → (within q ≡ true) ↔ Linked t (λ z. passes z ≡ true) v q) where
  grown : WholePart t passes v
  grown = whole t passes v

  same_points : (q : ℕ) → q < t.points → within q ≡ elem q grown.points
  same_points q h =
      same_test (within q) (elem q grown.points)
      (λ i. linked_inside grown ((agrees q h).0 i) (first_inside grown.part))
      (λ i. (agrees q h).1 (inside_linked grown q i))

  same_zones : (z : ℕ) → z < t.zones → (passes z && within (start t (2 * z))) ≡ elem z grown.zones
  same_zones z h = same_test (passes z && within (start t (2 * z))) (elem z grown.zones) in_part of_part
    where
      starts : within (start t (2 * z)) ≡ elem (start t (2 * z)) grown.points
      starts = same_points (start t (2 * z)) (inside (2 * z) (first_below t.zones z h))

      in_part : (passes z && within (start t (2 * z))) ≡ true → elem z grown.zones ≡ true
      in_part e =
          let p = and_left (passes z) (within (start t (2 * z))) e in
          let s = and_right (passes z) (within (start t (2 * z))) e in
          let i = grown.complete (2 * z) (first_below t.zones z h) (rw zone_first p) (sym starts ∙ s) in
          rw zone_first at i

      of_part : elem z grown.zones ≡ true → (passes z && within (start t (2 * z))) ≡ true
      of_part i =
          let p = zones_pass grown.part z i in
          let s = starts ∙ ends_inside grown.part (2 * z) (rw zone_first i) in
          rw (p, s)

  points_of_part : points_within t within ≡ length grown.points
  points_of_part = how_many_below_ext within (among grown.points) t.points same_points ∙ points_counted v-inside inside grown.part

  zones_of_part : zones_within t passes within ≡ length grown.zones
  zones_of_part = how_many_below_ext (λ z. passes z && within (start t (2 * z))) (among grown.zones) t.zones same_zones ∙ zones_counted grown.part

  -- a part has at least points - 1 zones
  pub zones_enough : points_within t within ≤ zones_within t passes within + 1
  zones_enough = omega (arith, enough grown.part, points_of_part, zones_of_part)

  -- with at least as many zones as points some walk comes back
  pub turns_with_loop : points_within t within ≤ zones_within t passes within → (ws : List ℕ) × Walk t passes v ws v × (ws ≡ [] → ⊥)
  turns_with_loop m =
      let r = turn grown.part (omega (arith, points_of_part, zones_of_part)) in
      (r.0, widen t (among grown.zones) passes (zones_pass grown.part) r.1, r.2)

  -- with fewer no walk comes back
  pub no_turn_without : zones_within t passes within < points_within t within → (ws : List ℕ) → Walk t passes v ws v → ws ≡ []
  no_turn_without m ws k = no_turn grown.part (omega (arith, points_of_part, zones_of_part)) (walks_inside grown (first_inside grown.part) k)

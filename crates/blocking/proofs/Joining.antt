-- The parts after joining: the ends of a free zone have one label, and so have those of a zone whose carrier turns; no set that is closed parts like labels.
-- From the law of joined zones: labels are alike exactly where old labels and joined zones tie points together.
use Prim.Native.Nat.{ℕ, ◌*◌, ◌<◌}
use mathlib.Core.List.{Memᴰ}
use mathlib.Core.Path.{◌≡◌, sym, ◌∙◌, ap, subst}
use mathlib.Core.Logic.{◌⊎◌, inl, inr}
use mathlib.Core.Bool.{true}
use native.Mathlib.Omega.{arith}
use lib.ListN.{length}
use Rattle.model.specs.Lists.{numbers_below, keep}
use Rattle.model.specs.Track.{Track, zone_of, rev, start, leave}
use Rattle.model.specs.Position.{Position, is_free}
use Rattle.model.specs.Labels.{label}
use Rattle.model.specs.Accepted.{Laid}
use Rattle.model.proofs.ListLaws.{mem_keep, keep_mem, mem_below, below_mem}
use Rattle.model.proofs.WordLaws.{rev_below, zone_below, leave_rev, same_zone}
use Rattle.model.proofs.LinkLaws.{linked_word, linked_keeps}
use Rattle.model.proofs.LabelLaws.{alike, ends, tied_keeps, length_join_zones, length_parts, join_zones_tied, tied_join_zones}
use Rattle.rules.specs.Collapse.{free_parts, turns, joined}
use Rattle.blocking.proofs.HomeSet.{Closed}
use Rattle.blocking.proofs.Loops.{part_linked}

module _ {t : Track} {p : Position} (laid : Laid t p) where
  parts_length : length (free_parts t p) ≡ t.points
  unfolding free_parts
  parts_length = length_parts t (is_free p)

  pub joined_length : length (joined t p) ≡ t.points
  unfolding joined
  joined_length = length_join_zones t (turns t p (free_parts t p)) (free_parts t p) ∙ parts_length

  leave_in : (w : ℕ) → w < 2 * t.zones → leave t w < t.points
  leave_in w h = laid.inside (rev w) (rev_below t.zones w h)

  in_parts : (q : ℕ) → q < t.points → q < length (free_parts t p)
  in_parts q h = subst (λ (n : ℕ). q < n) (sym parts_length) h

  -- the two ends of a free zone
  pub free_joined : (w : ℕ) → w < 2 * t.zones → is_free p (zone_of w) ≡ true → label (joined t p) (start t w) ≡ label (joined t p) (leave t w)
  unfolding joined
  free_joined w h f =
      tied_join_zones t laid.inside (turns t p (free_parts t p)) (free_parts t p) parts_length
      (alike (in_parts (start t w) (laid.inside w h)) (in_parts (leave t w) (leave_in w h)) ((part_linked laid (start t w) (leave t w) (laid.inside w h) (leave_in w h)).1 (linked_word t w h f)))

  -- of a zone whose carrier turns
  pub turning_joined : (w : ℕ) → w < 2 * t.zones → turns t p (free_parts t p) (zone_of w) ≡ true → label (joined t p) (start t w) ≡ label (joined t p) (leave t w)
  turning_joined w h e = by (same_zone w (2 * zone_of w) (omega arith))
    where
      across : label (joined t p) (start t (2 * zone_of w)) ≡ label (joined t p) (leave t (2 * zone_of w))
      across = unfold joined in tied_join_zones t laid.inside (turns t p (free_parts t p)) (free_parts t p) parts_length (ends (zone_of w) (keep_mem (turns t p (free_parts t p)) (below_mem t.zones (zone_of w) (zone_below t.zones w h)) e))

      by : (w ≡ 2 * zone_of w) ⊎ (w ≡ rev (2 * zone_of w)) → label (joined t p) (start t w) ≡ label (joined t p) (leave t w)
      by (inl q) = subst (λ (x : ℕ). label (joined t p) (start t x) ≡ label (joined t p) (leave t x)) (sym q) across
      by (inr q) =
          subst (λ (x : ℕ). label (joined t p) (start t x) ≡ label (joined t p) (leave t x)) (sym q)
          (sym across ∙ ap (label (joined t p)) (sym (leave_rev t (2 * zone_of w))))

  -- a closed set has both or neither of two points with one label
  pub joined_keeps : (S : ℕ → Type 0) → Closed t p S → (r s : ℕ) → r < t.points → s < t.points → label (joined t p) r ≡ label (joined t p) s → S r → S s
  unfolding joined
  joined_keeps S closed r s hr hs e =
      (tied_keeps t S same zone (join_zones_tied t laid.inside (turns t p (free_parts t p)) (free_parts t p) parts_length r s hr hs e)).0
    where
      in_points : (q : ℕ) → q < length (free_parts t p) → q < t.points
      in_points q h = subst (λ (n : ℕ). q < n) parts_length h

      same : (a b : ℕ) → a < length (free_parts t p) → b < length (free_parts t p) → label (free_parts t p) a ≡ label (free_parts t p) b → S a → S b
      same a b ha hb q = linked_keeps t S closed.over_free ((part_linked laid a b (in_points a ha) (in_points b hb)).0 q)

      zone : (z : ℕ) → Memᴰ z (keep (turns t p (free_parts t p)) (numbers_below t.zones)) → (S (start t (2 * z)) → S (leave t (2 * z))) × (S (leave t (2 * z)) → S (start t (2 * z)))
      zone z m =
          let k = mem_keep (turns t p (free_parts t p)) (numbers_below t.zones) m in
          let h : z < t.zones = mem_below t.zones k.0 in
          let there : zone_of (2 * z) ≡ z = omega arith in
          let back : zone_of (rev (2 * z)) ≡ z = omega arith in (
            closed.over_turning (2 * z) (omega arith) (ap (turns t p (free_parts t p)) there ∙ k.1),
            λ i. subst S (leave_rev t (2 * z)) (closed.over_turning (rev (2 * z)) (omega arith) (ap (turns t p (free_parts t p)) back ∙ k.1) i),
          )

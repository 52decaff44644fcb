-- A single move into a word: the position that it leaves is laid on the track, with that carrier at the word and the others where they stood.
-- By what stands in each zone.
use Prim.Native.Nat.{ℕ, ◌+◌, ◌*◌, ◌<◌}
use mathlib.Core.Path.{◌≡◌, refl, sym, ◌∙◌, ap, subst}
use mathlib.Core.Logic.{◌⊎◌, inl, inr}
use mathlib.Core.Bool.{true, false}
use native.Mathlib.Omega.{arith}
use lib.ListN.{length, set, length-set}
use lib.Seq.{get_or-set_same, get_or-set_other}
use lib.Dec.{eqb}
use borrow.Author.Tests.{eqb-true, eqb-false}
use Rattle.model.specs.Track.{Track, zone_of, heading_of}
use Rattle.model.specs.Position.{Position, at, Stands, Once, retire}
use Rattle.model.specs.Accepted.{Laid}
use Rattle.model.proofs.BoolLaws.{decided}
use Rattle.model.proofs.WordLaws.{zone_below}
use Rattle.model.proofs.PositionLaws.{laid_retire, length_without, stands_retire, stands_same}

-- single moves: carrier c goes from its standing u into the zone of word w

abbrev pub moved_to : Position → ℕ → ℕ → Position
moved_to p c w = set (retire c p) (zone_of w) (2 * c + heading_of w)

module _ (t : Track) (p : Position) (l : Laid t p) (c u w : ℕ) (s : Stands p c u) (word : w < 2 * t.zones) where
  pub length_moved : length (moved_to p c w) ≡ length p
  length_moved = length-set (retire c p) (zone_of w) (2 * c + heading_of w) ∙ length_without (eqb c) p

  target_inside : zone_of w < length (retire c p)
  target_inside = subst (λ (k : ℕ). zone_of w < k) (sym (length_without (eqb c) p ∙ l.each)) (zone_below t.zones w word)

  pub at_moved_here : at (moved_to p c w) (zone_of w) ≡ 2 * c + heading_of w
  at_moved_here = get_or-set_same (retire c p) (zone_of w) (2 * c + heading_of w) 0 target_inside

  pub at_moved_other : (z : ℕ) → (z ≡ zone_of w → ⊥) → at (moved_to p c w) z ≡ at (retire c p) z
  at_moved_other z n = get_or-set_other (retire c p) (zone_of w) z (2 * c + heading_of w) 0 n

  pub moved_stands : Stands (moved_to p c w) c w
  moved_stands = record {
    numbered = s.numbered;
    inside = subst (λ (k : ℕ). zone_of w < k) (sym (length-set (retire c p) (zone_of w) (2 * c + heading_of w))) target_inside;
    holds = at_moved_here;
  }

  -- what stands in another zone than w's stood there when c was taken off
  moved_elsewhere : {d v : ℕ} → Stands (moved_to p c w) d v → (zone_of v ≡ zone_of w → ⊥) → Stands (retire c p) d v
  moved_elsewhere {d} {v} r n = record {
    numbered = r.numbered;
    inside = subst (λ (k : ℕ). zone_of v < k) (length_moved ∙ sym (length_without (eqb c) p)) r.inside;
    holds = sym (at_moved_other (zone_of v) n) ∙ r.holds;
  }

  pub other_moved : {d v : ℕ} → (c ≡ d → ⊥) → Stands (moved_to p c w) d v → Stands p d v
  other_moved {d} {v} n r = (stands_retire c p (moved_elsewhere r (λ e. n (stands_same moved_stands r (sym e)).0))).0

  -- carrier c stands in the word alone
  pub moved_here : {v : ℕ} → Stands (moved_to p c w) c v → v ≡ w
  moved_here {v} r = go (decided (eqb (zone_of v) (zone_of w)))
    where
      go : (eqb (zone_of v) (zone_of w) ≡ true) ⊎ (eqb (zone_of v) (zone_of w) ≡ false) → v ≡ w
      go (inl e) = (stands_same r moved_stands (eqb-true (zone_of v) (zone_of w) e)).1
      go (inr e) = absurd ((stands_retire c p (moved_elsewhere r (eqb-false (zone_of v) (zone_of w) e))).1 refl)

  moved_once : Once (moved_to p c w)
  moved_once d v x r q = go (decided (eqb c d))
    where
      go : (eqb c d ≡ true) ⊎ (eqb c d ≡ false) → v ≡ x
      go (inl e) = let k : d ≡ c = sym (eqb-true c d e) in moved_here (subst (λ (y : ℕ). Stands (moved_to p c w) y v) k r) ∙ sym (moved_here (subst (λ (y : ℕ). Stands (moved_to p c w) y x) k q))
      go (inr e) = l.once d v x (other_moved (eqb-false c d e) r) (other_moved (eqb-false c d e) q)

  moved_free_heading : (z : ℕ) → at (moved_to p c w) z ≡ 1 → ⊥
  moved_free_heading z e = go (decided (eqb z (zone_of w)))
    where
      go : (eqb z (zone_of w) ≡ true) ⊎ (eqb z (zone_of w) ≡ false) → ⊥
      go (inl q) = let h : 2 * c + heading_of w ≡ 1 = sym at_moved_here ∙ ap (at (moved_to p c w)) (sym (eqb-true z (zone_of w) q)) ∙ e in s.numbered (omega arith)
      go (inr q) = (laid_retire t c p l).free_heading z (sym (at_moved_other z (eqb-false z (zone_of w) q)) ∙ e)

  pub moved_laid : Laid t (moved_to p c w)
  moved_laid = record { each = length_moved ∙ l.each; once = moved_once; free_heading = moved_free_heading; inside = l.inside; home_in = l.home_in }

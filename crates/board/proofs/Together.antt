-- Row 9: the ways lead from the start of each word to where it leaves, so home reaches the points that it is linked to.
-- It reaches as many as there are exactly when all have home's label.
use Prim.Native.Nat.{ℕ, ◌+◌, ◌*◌, ◌^◌, ◌≤◌, ◌<◌}
use native.Mathlib.Omega.{arith}
use mathlib.Core.List.{List}
use mathlib.Core.Path.{◌≡◌, refl, sym, ◌∙◌, ap, subst}
use mathlib.Core.Bool.{Bool, true, false, not}
use lib.ListN.{length, get_or, replicate, length-set}
use lib.Bits.{bit_or}
use lib.Dec.{eqb}
use borrow.Author.Tests.{eqb-true, eqb-false, eq-eqb}
use Rattle.model.specs.Lists.{numbers_below, any_of, all_of, how_many}
use Rattle.model.specs.Track.{rev, start, leave}
use Rattle.model.specs.Labels.{label, parts}
use Rattle.model.specs.Reading.{points_said, home_said, zones_said, out_of_range, bad_zone, track_said, apart, end_said}
use Rattle.model.proofs.ListLaws.{all_below, below_all}
use Rattle.model.proofs.WordLaws.{rev_below}
use Rattle.model.proofs.LabelLaws.{parts_linked, linked_parts}
use Rattle.model.proofs.ReadingLaws.{in_range, start_in, start_said}
use Rattle.bits.specs.Sets.{has_bit}
use Rattle.reach.specs.Ways.{Reach, WaysOver, Grown}
use Rattle.reach.specs.Ways.Reach.{here as stays, on}
use Rattle.reach.proofs.WayLaws.{added}
use Rattle.reach.proofs.OverLaws.{over_none, over_added, over_same}
use Rattle.reach.proofs.LinkedLaws.{reach_linked, linked_reach}
use Rattle.reach.proofs.ReachedLaws.{size_reached, reached_size}
use Rattle.board.proofs.Filling.{first_end, second_end}
use Rattle.board.specs.declared.input.Zone.{Zone}
use Rattle.board.specs.Inner.{ByteAt, ZoneAt, Inside, WaysOf}

pub inside : (b : List ℕ) → out_of_range b ≡ false → any_of (bad_zone b) (numbers_below (zones_said b)) ≡ false → Inside b
inside b range zones = record {
  points_most = (in_range b range).points_most;
  home_in = (in_range b range).home_in;
  word_in = λ w l. subst (λ (x : ℕ). x < points_said b) (start_said b w l) (start_in b zones w l);
}

pub ways_first : (b : List ℕ) {ways : List ℕ} → ways ≡ replicate 64 0 → WaysOf b ways 0
ways_first b e = subst (λ (x : List ℕ). WaysOf b x 0) (sym e) (over_none (end_said b) (λ v. end_said b (rev v)) (λ v. true))

module _ (b : List ℕ) {ways next : List ℕ} {w p q : ℕ} (L : WaysOf b ways w) where
  ways_next : p ≡ end_said b w → q ≡ end_said b (rev w) → p < 64 → next ≡ added ways p q → WaysOf b next (w + 1)
  ways_next P Q small = over_added (end_said b) (λ v. end_said b (rev v)) (λ v. true) w ways L refl (subst (λ (n : ℕ). n < 64) P small) P Q

pub added_size : (ways : List ℕ) {next : List ℕ} (p q : ℕ) → length ways ≡ 64 → next ≡ added ways p q → length next ≡ 64
added_size ways p q long e = ap length e ∙ length-set ways p (bit_or (get_or ways p 0) (2 ^ q)) ∙ long

-- the ends of a zone are points
module _ {b : List ℕ} {n z : ℕ} {r : Zone} (I : Inside b) (N : ByteAt b 5 n) (l : z < n) (Z : ZoneAt b z r) where
  word_small : {p : ℕ} (w : ℕ) → w < 2 * (z + 1) → p ≡ end_said b w → p < 64
  word_small w k e =
      let m : points_said b ≤ 64 = I.points_most in
      let g : end_said b w < points_said b = I.word_in w (let s : n ≡ zones_said b = N.is in omega arith) in
      omega arith

  pub first_in : r.a < 64
  first_in = word_small (2 * z) (omega arith) (first_end Z)

  pub second_in : r.b < 64
  second_in = word_small (2 * z + 1) (omega arith) (second_end Z)

-- a turn of the loop, and its end
pub ways_zone : {b ways next last : List ℕ} {z : ℕ} {r : Zone} → WaysOf b ways (2 * z) → ZoneAt b z r → r.a < 64 → r.b < 64
    → next ≡ added ways r.a r.b → last ≡ added next r.b r.a → WaysOf b last (2 * (z + 1))
ways_zone {b} {ways} {next} {last} {z} {r} L Z i j e f = subst (WaysOf b last) (let n : 2 * z + 1 + 1 ≡ 2 * (z + 1) = omega arith in n) (ways_next b there (second_end Z) first_back j f)
  where
    second_back : r.b ≡ end_said b (rev (2 * z))
    second_back = second_end Z ∙ ap (end_said b) (let k : 2 * z + 1 ≡ rev (2 * z) = omega arith in k)

    first_back : r.a ≡ end_said b (rev (2 * z + 1))
    first_back = first_end Z ∙ ap (end_said b) (let k : 2 * z ≡ rev (2 * z + 1) = omega arith in k)

    there : WaysOf b next (2 * z + 1)
    there = ways_next b L (first_end Z) second_back i e

module _ {b ways : List ℕ} (I : Inside b) (L : WaysOf b ways (2 * zones_said b)) where
  leave_in : (w : ℕ) → w < 2 * zones_said b → end_said b (rev w) < points_said b
  leave_in w l = I.word_in (rev w) (rev_below (zones_said b) w l)

  start_inside : (w : ℕ) → w < 2 * (track_said b).zones → start (track_said b) w < (track_said b).points
  unfolding track_said
  start_inside w l = subst (λ (x : ℕ). x < points_said b) (sym (start_said b w l)) (I.word_in w l)

  -- the ways are those of the track's words
  over_track : WaysOver (start (track_said b)) (leave (track_said b)) (λ w. true) (2 * (track_said b).zones) ways
  unfolding track_said
  over_track = over_same (λ w l. sym (start_said b w l)) (λ w l. sym (start_said b (rev w) (rev_below (zones_said b) w l))) L

  reach_inside : (q : ℕ) → Reach ways (home_said b) q → q < points_said b
  reach_inside q stays = I.home_in
  reach_inside q (on {q = a} r e) = let v = L.sound a q e in subst (λ (x : ℕ). x < points_said b) v.4 (leave_in v.0 v.1)

  -- q has home's label
  abbrev together : ℕ → Bool
  together q = let ls = parts (track_said b) (λ z. true) in eqb (label ls q) (label ls (home_said b))

  reach_together : (q : ℕ) → Reach ways (home_said b) q → together q ≡ true
  unfolding track_said
  reach_together q r = eq-eqb _ _ (sym (linked_parts (track_said b) start_inside (λ z. true) (home_said b) q I.home_in (reach_linked (track_said b) (λ z. true) over_track (λ w. refl) r)))

  together_reach : (q : ℕ) → q < points_said b → together q ≡ true → Reach ways (home_said b) q
  unfolding track_said
  together_reach q l e = linked_reach (track_said b) (λ z. true) over_track (λ w. refl) (parts_linked (track_said b) start_inside (λ z. true) (home_said b) q I.home_in l (sym (eqb-true _ _ e)))

  module _ {h s : ℕ} (H : ByteAt b 4 h) (G : Grown ways h s) where
    grown_home : Grown ways (home_said b) s
    grown_home = subst (λ (x : ℕ). Grown ways x s) H.is G

    all_together : (t : Bool) → eqb (how_many (has_bit s) (numbers_below 64)) (points_said b) ≡ t → all_of together (numbers_below (points_said b)) ≡ t
    all_together true e =
        below_all together (points_said b)
        (λ q l. reach_together q (size_reached (points_said b) I.points_most grown_home reach_inside (eqb-true (how_many (has_bit s) (numbers_below 64)) (points_said b) e) q l))
    all_together false e = go (all_of together (numbers_below (points_said b))) refl
      where
        go : (t : Bool) → all_of together (numbers_below (points_said b)) ≡ t → all_of together (numbers_below (points_said b)) ≡ false
        go true f =
            absurd (eqb-false (how_many (has_bit s) (numbers_below 64)) (points_said b) e
            (reached_size (points_said b) I.points_most grown_home reach_inside (λ q l. together_reach q l (all_below together (points_said b) f q l))))
        go false f = f

    pub apart_row : {p n : ℕ} → ByteAt b 3 p → n ≡ how_many (has_bit s) (numbers_below 64) → not (eqb n p) ≡ apart b
    unfolding apart
    apart_row {p} {n} P e = ap not (ap (λ (x : ℕ). eqb x p) e ∙ ap (eqb (how_many (has_bit s) (numbers_below 64))) P.is ∙ sym (all_together (eqb (how_many (has_bit s) (numbers_below 64)) (points_said b)) refl))

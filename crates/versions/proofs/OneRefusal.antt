-- A board in both versions gets one refusal: rows 6 to 9 go by what a board says of its points, home and zones, so that each holds of both boards or
-- of neither; the refusal is the first that holds. With it the definitions on bytes take both alike.
use Prim.Native.Nat.{ℕ, ◌+◌, ◌*◌, ◌<◌}
use mathlib.Core.Path.{◌≡◌, sym, ◌∙◌, ap, ap₂, subst}
use mathlib.Core.Logic.{◌⊎◌, inl, inr}
use mathlib.Core.List.{List, map}
use mathlib.Core.Bool.{true, false}
use native.Mathlib.Omega.{arith}
use lib.Dec.{eqb}
use borrow.Author.Tests.{eqb-true, eqb-false}
use Rattle.model.specs.Lists.{numbers_below}
use Rattle.model.specs.Track.{Track, zone_of, heading_of, Linked}
use Rattle.model.specs.Reading.{zones_said, carrier_in, heading_in, end_said, track_said, position_said, refusal}
use Rattle.model.specs.Rows.{StartsAt, Row, under_six, other_length, other_version, few_points, many_points, home_outside, few_zones, many_zones, not_four_each, not_five_each, end_a_outside, end_b_outside, heading_over_1, free_with_1, in_two_zones, under_two_zones, not_linked, FirstRow}
use Rattle.model.proofs.BoolLaws.{decided}
use Rattle.model.proofs.ListLaws.{mem_below}
use Rattle.model.proofs.PlaceLaws.{map_ext}
use Rattle.model.proofs.WordLaws.{zone_below}
use Rattle.model.proofs.ReadingLaws.{said_a, said_b, heading_cases}
use Rattle.model.proofs.RowLaws.{refusal_right}
use Rattle.versions.specs.Versions.{PastFive, SayAlike, OneRefusal}
use Rattle.versions.proofs.OneKey.{same_answers}

alike_sym : {b d : List ℕ} → SayAlike b d → SayAlike d b
alike_sym {b} {d} s = record {
  points = sym s.points;
  home = sym s.home;
  zones = sym s.zones;
  ends_a = λ z h. sym (s.ends_a z (inside z h));
  ends_b = λ z h. sym (s.ends_b z (inside z h));
  carrier = λ z h. sym (s.carrier z (inside z h));
  heading = λ z h. sym (s.heading z (inside z h));
}
  where
    inside : (z : ℕ) → z < zones_said d → z < zones_said b
    inside z h = omega (arith, s.zones)

-- what is said of the track and the position

module _ {b d : List ℕ} (s : SayAlike b d) where
  end_alike : (w : ℕ) → w < 2 * zones_said b → end_said b w ≡ end_said d w
  end_alike w h = go (heading_cases b w)
    where
      go : (heading_of w ≡ 0) ⊎ (heading_of w ≡ 1) → end_said b w ≡ end_said d w
      go (inl e) = said_a b w e ∙ s.ends_a (zone_of w) (zone_below (zones_said b) w h) ∙ sym (said_a d w e)
      go (inr e) = said_b b w e ∙ s.ends_b (zone_of w) (zone_below (zones_said b) w h) ∙ sym (said_b d w e)

  track_alike : track_said b ≡ track_said d
  unfolding track_said
  track_alike = λ i. record { points = s.points i; home = s.home i; zones = s.zones i; ends = ends i }
    where
      ends : map (end_said b) (numbers_below (2 * zones_said b)) ≡ map (end_said d) (numbers_below (2 * zones_said d))
      ends =
          map_ext (end_said b) (end_said d) (numbers_below (2 * zones_said b)) (λ w m. end_alike w (mem_below (2 * zones_said b) m)) ∙
          ap (λ (n : ℕ). map (end_said d) (numbers_below (2 * n))) s.zones

  position_alike : position_said b ≡ position_said d
  unfolding position_said
  position_alike =
      map_ext (held b) (held d) (numbers_below (zones_said b)) (λ z m. let h : z < zones_said b = mem_below (zones_said b) m in ap₂ (λ (c g : ℕ). 2 * c + g) (s.carrier z h) (s.heading z h)) ∙
      ap (λ (n : ℕ). map (held d) (numbers_below n)) s.zones
    where
      held : List ℕ → ℕ → ℕ
      held l z = 2 * carrier_in l z + heading_in l z

-- rows past 5 hold alike

row_alike : {b d : List ℕ} → PastFive b → SayAlike b d → {n : ℕ} → Row b n → Row d n
row_alike past s (under_six h) = absurd (past 1 (omega arith) (under_six h))
row_alike past s (other_length h) = absurd (past 2 (omega arith) (other_length h))
row_alike past s (other_version h k) = absurd (past 3 (omega arith) (other_version h k))
row_alike past s (few_points h) = absurd (past 4 (omega arith) (few_points h))
row_alike past s (many_points h) = absurd (past 4 (omega arith) (many_points h))
row_alike past s (home_outside h) = absurd (past 4 (omega arith) (home_outside h))
row_alike past s (few_zones h) = absurd (past 4 (omega arith) (few_zones h))
row_alike past s (many_zones h) = absurd (past 4 (omega arith) (many_zones h))
row_alike past s (not_four_each v h) = absurd (past 5 (omega arith) (not_four_each v h))
row_alike past s (not_five_each v h) = absurd (past 5 (omega arith) (not_five_each v h))
row_alike past s (end_a_outside z i h) = end_a_outside z (omega (arith, s.zones)) (omega (arith, s.points, s.ends_a z i))
row_alike past s (end_b_outside z i h) = end_b_outside z (omega (arith, s.zones)) (omega (arith, s.points, s.ends_b z i))
row_alike past s (heading_over_1 z i h) = heading_over_1 z (omega (arith, s.zones)) (omega (arith, s.heading z i))
row_alike past s (free_with_1 z i c h) = free_with_1 z (omega (arith, s.zones)) (sym (s.carrier z i) ∙ c) (sym (s.heading z i) ∙ h)
row_alike past s (in_two_zones y z i j d c e) =
    in_two_zones y z (omega (arith, s.zones)) (omega (arith, s.zones)) d (λ q. c (s.carrier z j ∙ q)) (sym (s.carrier y i) ∙ e ∙ s.carrier z j)
row_alike past s (under_two_zones q i o h) =
    under_two_zones q (omega (arith, s.points)) (λ e. o (e ∙ sym s.home))
    (λ w v x y. h w v (subst (λ (t : Track). StartsAt t q w) (sym (track_alike s)) x) (subst (λ (t : Track). StartsAt t q v) (sym (track_alike s)) y))
row_alike past s (not_linked p q i j h) =
    not_linked p q (omega (arith, s.points)) (omega (arith, s.points)) (λ l. h (subst (λ (t : Track). Linked t (λ z. Unit {0}) p q) (sym (track_alike s)) l))

refusal_alike : (b d : List ℕ) → PastFive b → PastFive d → SayAlike b d → refusal b ≡ refusal d
refusal_alike b d past past-d s = go (decided (eqb (refusal b) 0))
  where
    back : {n : ℕ} → Row d n → Row b n
    back r = row_alike past-d (alike_sym s) r

    go : (eqb (refusal b) 0 ≡ true) ⊎ (eqb (refusal b) 0 ≡ false) → refusal b ≡ refusal d
    go (inl e) =
        let zero : refusal b ≡ 0 = eqb-true (refusal b) 0 e in
        zero ∙ sym ((refusal_right d).accepted.1 (λ n r. (refusal_right b).accepted.0 zero n (back r)))
    go (inr e) =
        let pos : 0 < refusal b = omega (arith, eqb-false (refusal b) 0 e) in
        let first : FirstRow b (refusal b) = ((refusal_right b).refused (refusal b) pos).0 (λ i. refusal b) in
        sym (((refusal_right d).refused (refusal b) pos).1 (record { holds = row_alike past s first.holds; none_before = λ m h r. first.none_before m h (back r) }))

pub one_refusal : OneRefusal
one_refusal b d past past-d s =
    let same : refusal b ≡ refusal d = refusal_alike b d past past-d s in
    (same, same_answers b d same (record { track = track_alike s; position = position_alike s }))

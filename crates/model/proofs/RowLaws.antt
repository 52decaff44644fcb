-- `refusal` is the number of the first row that holds: where no test before it passes, a row's test passes exactly where the row holds. The tests
-- are gone through in rising order; that a row fails with its test is said of all rows at once, by the way in which the row holds.
use Prim.Native.Nat.{ℕ, suc, ◌+◌, ◌*◌, ◌≤◌, ◌<◌}
use mathlib.Core.Path.{◌≡◌, refl, sym, ◌∙◌, ap, subst}
use mathlib.Core.Logic.{◌⊎◌, inl, inr, ⊎_elim}
use mathlib.Core.List.{List, [], ◌∷◌}
use mathlib.Core.Bool.{Bool, true, false, cond, not, ◌&&◌, ◌||◌}
use native.Mathlib.Nat.{eq-or-lt_of_le}
use native.Mathlib.Omega.{arith}
use lib.ListN.{length, get_or, get_or-eq_default}
use lib.Dec.{leb, ltb, eqb}
use borrow.Author.Tests.{ltb-true, ltb-false, leb-false, eqb-true, eqb-false, eq-eqb, ne_eqb, not-true, not-false}
use Rattle.model.specs.Lists.{numbers_below, any_of, how_many}
use Rattle.model.specs.Track.{start}
use Rattle.model.specs.Reading.{length_said, version_said, wide, points_said, home_said, zones_said, end_a, end_b, carrier_in, heading_in, track_said, too_short, wrong_length, wrong_version, out_of_range, wrong_count, bad_zone, repeated, under_two, apart, refusal}
use Rattle.model.specs.Layout.{length_of}
use Rattle.model.specs.Rows.{StartsAt, Row, under_six, other_length, other_version, few_points, many_points, home_outside, few_zones, many_zones, not_four_each, not_five_each, end_a_outside, end_b_outside, heading_over_1, free_with_1, in_two_zones, under_two_zones, not_linked, FirstRow, RefusalRight}
use Rattle.model.proofs.BoolLaws.{both_ways, decided, or_cases, or_false_left, or_false_right, and_left, and_right, and_false_cases}
use Rattle.model.proofs.ListLaws.{any_below}
use Rattle.model.proofs.CountLaws.{TwoPass, two_pass, pass_two}
use Rattle.model.proofs.PlaceLaws.{how_many_places}
use Rattle.model.proofs.LayoutLaws.{four, five}
use Rattle.model.proofs.ReadingLaws.{NoRow, said_length, said_count, in_range, good_zone, carrier_once, not_under_two, length_ends, hangs_said, apart_said, refusal_small}

module _ (b : List ℕ) where
  -- the test of row n; there is no row 0
  abbrev tests : List Bool
  tests =
      false ∷ too_short b ∷ wrong_length b ∷ wrong_version b ∷ out_of_range b ∷ wrong_count b ∷ any_of (bad_zone b) (numbers_below (zones_said b)) ∷ any_of (repeated b) (numbers_below (zones_said b)) ∷
      any_of (under_two b) (numbers_below (points_said b)) ∷ apart b ∷ []

  abbrev test : ℕ → Bool
  test n = get_or tests n false

  -- no test below n passes
  abbrev Past : ℕ → Type 0
  Past n = (m : ℕ) → m < n → test m ≡ false

  no_row_past : Past 9 → NoRow b
  no_row_past f = record {
    long = f 1 (omega arith);
    length_said_lem = f 2 (omega arith);
    version = f 3 (omega arith);
    range = f 4 (omega arith);
    zone_count = f 5 (omega arith);
    zones = f 6 (omega arith);
    repeats = f 7 (omega arith);
    two_each = f 8 (omega arith);
  }

  -- the versions that row 3 lets through
  version_1 : wrong_version b ≡ false → wide b ≡ false → version_said b ≡ 1
  unfolding wrong_version
  version_1 e narrow = ⊎_elim (λ q. eqb-true (version_said b) 1 q) (λ q. both_ways q narrow) (or_cases (eqb (version_said b) 1) (wide b) (not-false _ e))

  -- L as row 5 wants it, in numbers
  count_4 : version_said b ≡ 1 → length_of (wide b) (zones_said b) ≡ 4 + 4 * zones_said b
  count_4 e = ap (λ (s : ℕ). 4 + s * zones_said b) (sym (four (ne_eqb (version_said b) 2 (λ q. omega arith))))

  count_5 : version_said b ≡ 2 → length_of (wide b) (zones_said b) ≡ 4 + 5 * zones_said b
  count_5 e = ap (λ (s : ℕ). 4 + s * zones_said b) (sym (five (eq-eqb (version_said b) 2 e)))

  -- whether the word w starts at q
  abbrev starts : ℕ → ℕ → Bool
  starts q w = eqb q (start (track_said b) w)

  -- as many words start at q as ends are q
  words_at : (q : ℕ) → how_many (eqb q) (track_said b).ends ≡ how_many (starts q) (numbers_below (2 * zones_said b))
  words_at q = how_many_places (eqb q) (track_said b).ends ∙ ap (λ (n : ℕ). how_many (starts q) (numbers_below n)) (length_ends b)

  -- row 7 of two zones, whichever comes first
  in_one_zone : any_of (repeated b) (numbers_below (zones_said b)) ≡ false → (y z : ℕ) → y < zones_said b → z < zones_said b → (y ≡ z → ⊥) → (carrier_in b z ≡ 0 → ⊥) → carrier_in b y ≡ carrier_in b z → ⊥
  in_one_zone f y z i j d c e =
      ⊎_elim
      (λ t. carrier_once b f y z (ltb-true y z t) j c e)
      (λ t. carrier_once b f z y (omega (arith, ltb-false y z t)) i (λ q. c (sym e ∙ q)) (sym e))
      (decided (ltb y z))

  -- row 8: two words start at a point
  two_start : any_of (under_two b) (numbers_below (points_said b)) ≡ false → (q : ℕ) → q < points_said b → (q ≡ home_said b → ⊥) → ((w v : ℕ) → StartsAt (track_said b) q w → StartsAt (track_said b) q v → w ≡ v) → ⊥
  unfolding track_said
  two_start f q i d h =
      let r : TwoPass (starts q) (2 * zones_said b) = two_pass (starts q) (2 * zones_said b) (subst (λ (n : ℕ). 2 ≤ n) (words_at q) (not_under_two b f q i d)) in
      let same : r.lower ≡ r.upper = h r.lower r.upper (at r.lower (omega (arith, r.apart, r.small)) r.lower_passes) (at r.upper r.small r.upper_passes) in
      omega (arith, r.apart)
    where
      at : (w : ℕ) → w < 2 * zones_said b → starts q w ≡ true → StartsAt (track_said b) q w
      at w l e = record { small = l; starts = sym (eqb-true q (start (track_said b) w) e) }

  -- nothing is tested before row 1
  past_none : Past 1
  past_none m h = ap test (let none : m ≡ 0 = omega arith in none)

  -- where a row's test and those before it fail, it doesn't hold
  refuted : {n : ℕ} → Row b n → Past (suc n) → ⊥
  unfolding too_short wrong_version track_said
  refuted (under_six h) f = omega (arith, ltb-false (length b) 6 (f 1 (omega arith)))
  refuted (other_length h) f = h (said_length b (f 2 (omega arith)))
  refuted (other_version h k) f = ⊎_elim (λ e. h (eqb-true (version_said b) 1 e)) (λ e. k (eqb-true (version_said b) 2 e)) (or_cases (eqb (version_said b) 1) (wide b) (not-false _ (f 3 (omega arith))))
  refuted (few_points h) f = omega (arith, (in_range b (f 4 (omega arith))).points_least)
  refuted (many_points h) f = omega (arith, (in_range b (f 4 (omega arith))).points_most)
  refuted (home_outside h) f = omega (arith, (in_range b (f 4 (omega arith))).home_in)
  refuted (few_zones h) f = omega (arith, (in_range b (f 4 (omega arith))).zones_least)
  refuted (many_zones h) f = omega (arith, (in_range b (f 4 (omega arith))).zones_most)
  refuted (not_four_each v h) f = h (said_count b (f 5 (omega arith)) ∙ count_4 v)
  refuted (not_five_each v h) f = h (said_count b (f 5 (omega arith)) ∙ count_5 v)
  refuted (end_a_outside z i h) f = omega (arith, (good_zone b (f 6 (omega arith)) z i).a_in)
  refuted (end_b_outside z i h) f = omega (arith, (good_zone b (f 6 (omega arith)) z i).b_in)
  refuted (heading_over_1 z i h) f = omega (arith, (good_zone b (f 6 (omega arith)) z i).heading)
  refuted (free_with_1 z i c h) f = (good_zone b (f 6 (omega arith)) z i).free_heading c h
  refuted (in_two_zones y z i j d c e) f = in_one_zone (f 7 (omega arith)) y z i j d c e
  refuted (under_two_zones q i d h) f = two_start (f 8 (omega arith)) q i d h
  refuted (not_linked p q i j h) f = h (hangs_said b (no_row_past (λ m l. f m (omega arith))) (f 9 (omega arith)) p q i j)

  -- where a row's test passes and none before it, the row holds

  row_1 : too_short b ≡ true → Row b 1
  unfolding too_short
  row_1 e = under_six (ltb-true (length b) 6 e)

  row_2 : wrong_length b ≡ true → Row b 2
  unfolding wrong_length
  row_2 e = other_length (eqb-false (length_said b + 2) (length b) (not-true _ e))

  row_3 : wrong_version b ≡ true → Row b 3
  unfolding wrong_version
  row_3 e =
      let neither : (eqb (version_said b) 1 || wide b) ≡ false = not-true _ e in
      other_version (eqb-false (version_said b) 1 (or_false_left (eqb (version_said b) 1) (wide b) neither)) (eqb-false (version_said b) 2 (or_false_right (eqb (version_said b) 1) (wide b) neither))

  row_4 : out_of_range b ≡ true → Row b 4
  unfolding out_of_range
  row_4 e = of_points (and_false_cases (leb 2 (points_said b)) _ (not-true _ e))
    where
      rest : Bool
      rest = leb 2 (zones_said b) && leb (zones_said b) 96

      of_zones : (leb 2 (zones_said b) ≡ false) ⊎ (leb (zones_said b) 96 ≡ false) → Row b 4
      of_zones (inl q) = few_zones (leb-false 2 (zones_said b) q)
      of_zones (inr q) = many_zones (leb-false (zones_said b) 96 q)

      of_home : (ltb (home_said b) (points_said b) ≡ false) ⊎ (rest ≡ false) → Row b 4
      of_home (inl q) = home_outside (ltb-false (home_said b) (points_said b) q)
      of_home (inr q) = of_zones (and_false_cases (leb 2 (zones_said b)) (leb (zones_said b) 96) q)

      of_many : (leb (points_said b) 64 ≡ false) ⊎ ((ltb (home_said b) (points_said b) && rest) ≡ false) → Row b 4
      of_many (inl q) = many_points (leb-false (points_said b) 64 q)
      of_many (inr q) = of_home (and_false_cases (ltb (home_said b) (points_said b)) rest q)

      of_points : (leb 2 (points_said b) ≡ false) ⊎ ((leb (points_said b) 64 && (ltb (home_said b) (points_said b) && rest)) ≡ false) → Row b 4
      of_points (inl q) = few_points (leb-false 2 (points_said b) q)
      of_points (inr q) = of_many (and_false_cases (leb (points_said b) 64) (ltb (home_said b) (points_said b) && rest) q)

  row_5 : wrong_version b ≡ false → wrong_count b ≡ true → Row b 5
  unfolding wrong_count
  row_5 v e = ⊎_elim (λ w. five_each (eqb-true (version_said b) 2 w)) (λ w. four_each (version_1 v w)) (decided (wide b))
    where
      other : length_said b ≡ length_of (wide b) (zones_said b) → ⊥
      other = eqb-false (length_said b) (length_of (wide b) (zones_said b)) (not-true _ e)

      four_each : version_said b ≡ 1 → Row b 5
      four_each w = not_four_each w (λ q. other (q ∙ sym (count_4 w)))

      five_each : version_said b ≡ 2 → Row b 5
      five_each w = not_five_each w (λ q. other (q ∙ sym (count_5 w)))

  row_6 : any_of (bad_zone b) (numbers_below (zones_said b)) ≡ true → Row b 6
  unfolding bad_zone
  row_6 e = let r = any_below (bad_zone b) (zones_said b) e in of_zone r.0 r.1 r.2 (decided (ltb (end_a b r.0) (points_said b))) (decided (ltb (end_b b r.0) (points_said b))) (decided (leb (heading_in b r.0) 1)) (decided (free r.0))
    where
      free : ℕ → Bool
      free z = eqb (carrier_in b z) 0 && eqb (heading_in b z) 1

      of_zone : (z : ℕ) → z < zones_said b → bad_zone b z ≡ true
          → (ltb (end_a b z) (points_said b) ≡ true) ⊎ (ltb (end_a b z) (points_said b) ≡ false)
          → (ltb (end_b b z) (points_said b) ≡ true) ⊎ (ltb (end_b b z) (points_said b) ≡ false)
          → (leb (heading_in b z) 1 ≡ true) ⊎ (leb (heading_in b z) 1 ≡ false) → (free z ≡ true) ⊎ (free z ≡ false) → Row b 6
      of_zone z h bad (inr p) q k g = end_a_outside z h (ltb-false (end_a b z) (points_said b) p)
      of_zone z h bad (inl p) (inr q) k g = end_b_outside z h (ltb-false (end_b b z) (points_said b) q)
      of_zone z h bad (inl p) (inl q) (inr k) g = heading_over_1 z h (leb-false (heading_in b z) 1 k)
      of_zone z h bad (inl p) (inl q) (inl k) (inl g) = free_with_1 z h (eqb-true (carrier_in b z) 0 (and_left (eqb (carrier_in b z) 0) (eqb (heading_in b z) 1) g)) (eqb-true (heading_in b z) 1 (and_right (eqb (carrier_in b z) 0) (eqb (heading_in b z) 1) g))
      of_zone z h bad (inl p) (inl q) (inl k) (inr g) = both_ways bad (let good : bad_zone b z ≡ false = simp (p, q, k, g) in good)

  row_7 : any_of (repeated b) (numbers_below (zones_said b)) ≡ true → Row b 7
  unfolding repeated
  row_7 e =
      let r = any_below (repeated b) (zones_said b) e in
      let z : ℕ = r.0 in
      let before : any_of (same z) (numbers_below z) ≡ true = and_right (not (eqb (carrier_in b z) 0)) (any_of (same z) (numbers_below z)) r.2 in
      let y = any_below (same z) z before in
      in_two_zones y.0 z (omega (arith, y.1, r.1)) r.1 (λ q. omega (arith, y.1)) (eqb-false (carrier_in b z) 0 (not-true _ (and_left (not (eqb (carrier_in b z) 0)) (any_of (same z) (numbers_below z)) r.2))) (eqb-true (carrier_in b y.0) (carrier_in b z) y.2)
    where
      same : ℕ → ℕ → Bool
      same z y = eqb (carrier_in b y) (carrier_in b z)

  row_8 : any_of (under_two b) (numbers_below (points_said b)) ≡ true → Row b 8
  unfolding under_two track_said
  row_8 e =
      let r = any_below (under_two b) (points_said b) e in
      let q : ℕ = r.0 in
      let few : how_many (eqb q) (track_said b).ends < 2 = ltb-true _ 2 (and_right (not (eqb q (home_said b))) (ltb (how_many (eqb q) (track_said b).ends) 2) r.2) in
      under_two_zones q r.1 (eqb-false q (home_said b) (not-true _ (and_left (not (eqb q (home_said b))) (ltb (how_many (eqb q) (track_said b).ends) 2) r.2))) (λ w v x y. one q few w v x y (decided (eqb w v)))
    where
      one : (q : ℕ) → how_many (eqb q) (track_said b).ends < 2 → (w v : ℕ) → StartsAt (track_said b) q w → StartsAt (track_said b) q v → (eqb w v ≡ true) ⊎ (eqb w v ≡ false) → w ≡ v
      one q few w v x y (inl d) = eqb-true w v d
      one q few w v x y (inr d) =
          absurd (omega (arith, words_at q, pass_two (starts q) (2 * zones_said b) w v x.small y.small (eqb-false w v d) (eq-eqb q (start (track_said b) w) (sym x.starts)) (eq-eqb q (start (track_said b) v) (sym y.starts))))

  row_9 : Past 9 → apart b ≡ true → Row b 9
  row_9 f e =
      let n : NoRow b = no_row_past f in
      let x = apart_said b n e in
      not_linked x.0 (home_said b) x.1 (in_range b n.range).home_in x.2

  -- n is the number of the first row that holds, or 0 where none does
  abbrev Given : ℕ → Type 0
  Given n = FirstRow b n ⊎ ((n ≡ 0) × ((m : ℕ) → Row b m → ⊥))

  -- one row after another: its number, or what comes after it
  step : (t : Bool) (k x : ℕ) → test k ≡ t → (Past k → t ≡ true → Row b k) → Past k → (Past (suc k) → Given x) → Given (cond t k x)
  step true k x e row past rest = inl (record { holds = row past refl; none_before = λ m h r. refuted r (λ j i. past j (omega arith)) })
  step false k x e row past rest = rest (λ m h. go m (eq-or-lt_of_le h))
    where
      go : (m : ℕ) → (suc m ≡ suc k) ⊎ (suc m < suc k) → test m ≡ false
      go m (inl q) = let s : m ≡ k = omega arith in ap test s ∙ e
      go m (inr q) = past m (omega arith)

  -- there is no test past row 9
  past_all : Past 10 → (m : ℕ) → test m ≡ false
  past_all f m = ⊎_elim (λ t. f m (ltb-true m 10 t)) (λ t. get_or-eq_default tests false (ltb-false m 10 t)) (decided (ltb m 10))

  -- all rows in turn
  given : Given (refusal b)
  unfolding refusal
  given =
      step (too_short b) 1 _ refl (λ _. row_1) past_none (λ p2.
      step (wrong_length b) 2 _ refl (λ _. row_2) p2 (λ p3.
      step (wrong_version b) 3 _ refl (λ _. row_3) p3 (λ p4.
      step (out_of_range b) 4 _ refl (λ _. row_4) p4 (λ p5.
      step (wrong_count b) 5 _ refl (λ p. row_5 (p 3 (omega arith))) p5 (λ p6.
      step (any_of (bad_zone b) (numbers_below (zones_said b))) 6 _ refl (λ _. row_6) p6 (λ p7.
      step (any_of (repeated b) (numbers_below (zones_said b))) 7 _ refl (λ _. row_7) p7 (λ p8.
      step (any_of (under_two b) (numbers_below (points_said b))) 8 _ refl (λ _. row_8) p8 (λ p9.
      step (apart b) 9 _ refl row_9 p9 (λ p10. inr (refl, λ m r. refuted r (λ j _. past_all p10 j)))))))))))

  first_of : (n : ℕ) → 0 < n → refusal b ≡ n → FirstRow b n
  first_of n pos e = go given
    where
      go : Given (refusal b) → FirstRow b n
      go (inl r) = subst (FirstRow b) e r
      go (inr r) = absurd (omega (arith, r.0))

  none_of : refusal b ≡ 0 → (n : ℕ) → Row b n → ⊥
  none_of e = go given
    where
      go : Given (refusal b) → (n : ℕ) → Row b n → ⊥
      go (inl r) = absurd (refuted (subst (Row b) e r.holds) past_none)
      go (inr r) = r.1

  of_none : ((n : ℕ) → Row b n → ⊥) → refusal b ≡ 0
  of_none f = go given
    where
      go : Given (refusal b) → refusal b ≡ 0
      go (inl r) = absurd (f (refusal b) r.holds)
      go (inr r) = r.0

  of_first : (n : ℕ) → FirstRow b n → refusal b ≡ n
  of_first n first = go given
    where
      go : Given (refusal b) → refusal b ≡ n
      go (inl r) = one (decided (ltb (refusal b) n)) (decided (ltb n (refusal b)))
        where
          one : (ltb (refusal b) n ≡ true) ⊎ (ltb (refusal b) n ≡ false) → (ltb n (refusal b) ≡ true) ⊎ (ltb n (refusal b) ≡ false) → refusal b ≡ n
          one (inl l) k = absurd (first.none_before (refusal b) (ltb-true _ n l) r.holds)
          one (inr l) (inl k) = absurd (r.none_before n (ltb-true n _ k) first.holds)
          one (inr l) (inr k) = omega (arith, ltb-false _ n l, ltb-false n _ k)
      go (inr r) = absurd (r.1 n first.holds)

pub refusal_right : RefusalRight
refusal_right b = record { accepted = (none_of b, of_none b); refused = λ n pos. (first_of b n pos, of_first b n); most = refusal_small b }

-- A board that meets none of the refusals 1 to 9 is accepted: what each row's test says when it does not hold.
-- The rows are taken apart from `refusal` one by one; each then gives its facts about the track and the position said.
use Prim.Native.Nat.{ℕ, ◌+◌, ◌*◌, ◌/◌, ◌%◌, ◌≤◌, ◌<◌}
use mathlib.Core.Path.{◌≡◌, refl, sym, ◌∙◌, ap}
use mathlib.Core.Logic.{◌⊎◌, inl, inr, ⊎_elim}
use mathlib.Core.List.{List}
use mathlib.Core.Bool.{Bool, true, false, cond, not, ◌&&◌, true≢false}
use native.Mathlib.Omega.{arith}
use native.Mathlib.Nat.{mul-le-mul}
use lib.ListN.{length, length-map, get_or-eq_default}
use lib.Dec.{leb, ltb, eqb}
use borrow.Author.Tests.{ltb-true, ltb-false, leb-true, eqb-true, eqb-false, eq-eqb, ne_eqb, not-true, not-false}
use Rattle.model.specs.Lists.{numbers_below, any_of, all_of, how_many}
use Rattle.model.specs.Track.{zone_of, heading_of, start, Linked}
use Rattle.model.specs.Position.{at, Stands, Once}
use Rattle.model.specs.Labels.{label, parts}
use Rattle.model.specs.Layout.{length_of}
use Rattle.model.specs.Reading.{byte, Bytes, two_bytes, wide, zone_from, length_said, end_said, points_said, home_said, zones_said, end_a, end_b, carrier_in, heading_in, track_said, position_said, too_short, wrong_length, wrong_version, out_of_range, wrong_count, bad_zone, repeated, under_two, apart, refusal}
use Rattle.model.specs.Accepted.{HangsTogether, AcceptedTrack, Laid, held_limit, Limited, Ready}
use Rattle.model.proofs.BoolLaws.{both_ways, decided, and_left, and_right, and_both, or-true}
use Rattle.model.proofs.ListLaws.{length_below, any_below_false, below_any, all_below, all_below_false}
use Rattle.model.proofs.PlaceLaws.{get_or_map_below}
use Rattle.model.proofs.WordLaws.{zone_below}
use Rattle.model.proofs.LinkLaws.{linked_mono}
use Rattle.model.proofs.LabelLaws.{parts_linked, linked_parts}
use Rattle.model.proofs.LayoutLaws.{stride_most}

-- none of the rows 1 to 8 holds
pub record NoRow (b : List ℕ) : Type 0 where
  pub long : too_short b ≡ false
  pub length_said_lem : wrong_length b ≡ false
  pub version : wrong_version b ≡ false
  pub range : out_of_range b ≡ false
  pub zone_count : wrong_count b ≡ false
  pub zones : any_of (bad_zone b) (numbers_below (zones_said b)) ≡ false
  pub repeats : any_of (repeated b) (numbers_below (zones_said b)) ≡ false
  pub two_each : any_of (under_two b) (numbers_below (points_said b)) ≡ false

cond_past : (t : Bool) (r x k : ℕ) → (r ≡ k → ⊥) → cond t r x ≡ k → (t ≡ false) × (x ≡ k)
cond_past true r x k n e = absurd (n e)
cond_past false r x k n e = (refl, e)

cond_taken : (t : Bool) → ◌≡◌ {A = ℕ} (cond t 9 0) 9 → t ≡ true
cond_taken true e = refl
cond_taken false e = absurd (let h : ◌≡◌ {A = ℕ} 0 9 = e in omega arith)

cond_most : (t : Bool) (k x : ℕ) {n : ℕ} → k ≤ n → x ≤ n → cond t k x ≤ n
cond_most true k x h i = h
cond_most false k x h i = i

module _ (b : List ℕ) where
  row9 : ℕ
  row9 = cond (apart b) 9 0

  row8 : ℕ
  row8 = cond (any_of (under_two b) (numbers_below (points_said b))) 8 row9

  row7 : ℕ
  row7 = cond (any_of (repeated b) (numbers_below (zones_said b))) 7 row8

  row6 : ℕ
  row6 = cond (any_of (bad_zone b) (numbers_below (zones_said b))) 6 row7

  row5 : ℕ
  row5 = cond (wrong_count b) 5 row6

  row4 : ℕ
  row4 = cond (out_of_range b) 4 row5

  row3 : ℕ
  row3 = cond (wrong_version b) 3 row4

  row2 : ℕ
  row2 = cond (wrong_length b) 2 row3

  refusal_rows : refusal b ≡ cond (too_short b) 1 row2
  unfolding refusal row2 row3 row4 row5 row6 row7 row8 row9
  refusal_rows = refl

  -- rows 1 to 8 are passed where the number is 0 or 9, and row 9 says which
  past_eight : (k : ℕ) → ((r : ℕ) → 0 < r → r < 9 → r ≡ k → ⊥) → refusal b ≡ k → NoRow b × (row9 ≡ k)
  unfolding row2 row3 row4 row5 row6 row7 row8
  past_eight k none e =
      let r1 = cond_past (too_short b) 1 row2 k (none 1 (omega arith) (omega arith)) (sym refusal_rows ∙ e) in
      let r2 = cond_past (wrong_length b) 2 row3 k (none 2 (omega arith) (omega arith)) r1.1 in
      let r3 = cond_past (wrong_version b) 3 row4 k (none 3 (omega arith) (omega arith)) r2.1 in
      let r4 = cond_past (out_of_range b) 4 row5 k (none 4 (omega arith) (omega arith)) r3.1 in
      let r5 = cond_past (wrong_count b) 5 row6 k (none 5 (omega arith) (omega arith)) r4.1 in
      let r6 = cond_past (any_of (bad_zone b) (numbers_below (zones_said b))) 6 row7 k (none 6 (omega arith) (omega arith)) r5.1 in
      let r7 = cond_past (any_of (repeated b) (numbers_below (zones_said b))) 7 row8 k (none 7 (omega arith) (omega arith)) r6.1 in
      let r8 = cond_past (any_of (under_two b) (numbers_below (points_said b))) 8 row9 k (none 8 (omega arith) (omega arith)) r7.1 in (
        record {
          long = r1.0;
          length_said_lem = r2.0;
          version = r3.0;
          range = r4.0;
          zone_count = r5.0;
          zones = r6.0;
          repeats = r7.0;
          two_each = r8.0;
        },
        r8.1,
      )

  pub no_row : refusal b ≡ 0 → NoRow b
  no_row e = (past_eight 0 (λ r pos small q. omega arith) e).0

  pub together : refusal b ≡ 0 → apart b ≡ false
  unfolding row9
  together e = (cond_past (apart b) 9 0 0 (λ q. omega arith) (past_eight 0 (λ r pos small q. omega arith) e).1).0

  row_nine : refusal b ≡ 9 → NoRow b × (apart b ≡ true)
  unfolding row9
  row_nine e = let r = past_eight 9 (λ r pos small q. omega arith) e in (r.0, cond_taken (apart b) r.1)

  pub refusal_small : refusal b ≤ 9
  unfolding refusal
  refusal_small =
      cond_most (too_short b) 1 _ (omega arith)
      (cond_most (wrong_length b) 2 _ (omega arith)
      (cond_most (wrong_version b) 3 _ (omega arith)
      (cond_most (out_of_range b) 4 _ (omega arith)
      (cond_most (wrong_count b) 5 _ (omega arith)
      (cond_most (any_of (bad_zone b) (numbers_below (zones_said b))) 6 _ (omega arith)
      (cond_most (any_of (repeated b) (numbers_below (zones_said b))) 7 _ (omega arith)
      (cond_most (any_of (under_two b) (numbers_below (points_said b))) 8 _ (omega arith)
      (cond_most (apart b) 9 0 (omega arith) (omega arith)))))))))

-- what an operation on bytes answers: one thing where the board is accepted, another where it is refused
module _ {A : Type 0} (b : List ℕ) (x y : A) where
  pub if_accepted : refusal b ≡ 0 → cond (eqb (refusal b) 0) x y ≡ x
  if_accepted e = ap (λ (t : Bool). cond t x y) (eq-eqb (refusal b) 0 e)

  pub if_refused : (refusal b ≡ 0 → ⊥) → cond (eqb (refusal b) 0) x y ≡ y
  if_refused n = ap (λ (t : Bool). cond t x y) (ne_eqb (refusal b) 0 n)

-- rows 2 and 5: L is the number of bytes after it, and what the entries take
pub said_length : (b : List ℕ) → wrong_length b ≡ false → length_said b + 2 ≡ length b
unfolding wrong_length
said_length b e = eqb-true (length_said b + 2) (length b) (not-false _ e)

pub said_count : (b : List ℕ) → wrong_count b ≡ false → length_said b ≡ length_of (wide b) (zones_said b)
unfolding wrong_count
said_count b e = eqb-true (length_said b) (length_of (wide b) (zones_said b)) (not-false _ e)

-- row 4
pub record InRange (b : List ℕ) : Type 0 where
  pub points_least : 2 ≤ points_said b
  pub points_most : points_said b ≤ 64
  pub home_in : home_said b < points_said b
  pub zones_least : 2 ≤ zones_said b
  pub zones_most : zones_said b ≤ 96

-- row 6, of one zone
pub record GoodZone (b : List ℕ) (z : ℕ) : Type 0 where
  pub a_in : end_a b z < points_said b
  pub b_in : end_b b z < points_said b
  pub heading : heading_in b z ≤ 1
  pub free_heading : carrier_in b z ≡ 0 → heading_in b z ≡ 1 → ⊥

module _ (b : List ℕ) where
  pub in_range : out_of_range b ≡ false → InRange b
  unfolding out_of_range
  in_range range = record {
    points_least = leb-true 2 (points_said b) (and_left (leb 2 (points_said b)) rest1 whole);
    points_most = leb-true (points_said b) 64 (and_left (leb (points_said b) 64) rest2 two);
    home_in = ltb-true (home_said b) (points_said b) (and_left (ltb (home_said b) (points_said b)) rest3 three);
    zones_least = leb-true 2 (zones_said b) (and_left (leb 2 (zones_said b)) (leb (zones_said b) 96) four);
    zones_most = leb-true (zones_said b) 96 (and_right (leb 2 (zones_said b)) (leb (zones_said b) 96) four);
  }
    where
      rest3 : Bool
      rest3 = leb 2 (zones_said b) && leb (zones_said b) 96

      rest2 : Bool
      rest2 = ltb (home_said b) (points_said b) && rest3

      rest1 : Bool
      rest1 = leb (points_said b) 64 && rest2

      whole : (leb 2 (points_said b) && rest1) ≡ true
      whole = not-false (leb 2 (points_said b) && rest1) range

      two : rest1 ≡ true
      two = and_right (leb 2 (points_said b)) rest1 whole

      three : rest2 ≡ true
      three = and_right (leb (points_said b) 64) rest2 two

      four : rest3 ≡ true
      four = and_right (ltb (home_said b) (points_said b)) rest3 three

  pub good_zone : any_of (bad_zone b) (numbers_below (zones_said b)) ≡ false → (z : ℕ) → z < zones_said b → GoodZone b z
  unfolding bad_zone
  good_zone zones z h = record {
    a_in = ltb-true (end_a b z) (points_said b) (passes (ltb (end_a b z) (points_said b)) (λ e. simp e));
    b_in = ltb-true (end_b b z) (points_said b) (passes (ltb (end_b b z) (points_said b)) (λ e. simp (e, or-true)));
    heading = leb-true (heading_in b z) 1 (passes (leb (heading_in b z) 1) (λ e. simp (e, or-true)));
    free_heading = λ c g. both_ways (let bad : bad_zone b z ≡ true = simp (c, g, or-true) in bad) fails;
  }
    where
      fails : bad_zone b z ≡ false
      fails = any_below_false (bad_zone b) (zones_said b) zones z h

      passes : (t : Bool) → (t ≡ false → bad_zone b z ≡ true) → t ≡ true
      passes true f = refl
      passes false f = both_ways (f refl) fails

  -- row 7: no carrier in two zones
  pub carrier_once : any_of (repeated b) (numbers_below (zones_said b)) ≡ false → (y z : ℕ) → y < z → z < zones_said b → (carrier_in b z ≡ 0 → ⊥) → carrier_in b y ≡ carrier_in b z → ⊥
  unfolding repeated
  carrier_once repeats y z h k m e = true≢false (sym twice ∙ any_below_false (repeated b) (zones_said b) repeats z k)
    where
      same : ℕ → Bool
      same x = eqb (carrier_in b x) (carrier_in b z)

      earlier : any_of same (numbers_below z) ≡ true
      earlier = below_any same z y h (eq-eqb (carrier_in b y) (carrier_in b z) e)

      twice : (not (eqb (carrier_in b z) 0) && any_of same (numbers_below z)) ≡ true
      twice = and_both (not (eqb (carrier_in b z) 0)) (any_of same (numbers_below z)) (ap not (ne_eqb (carrier_in b z) 0 m)) earlier

  -- row 8
  pub not_under_two : any_of (under_two b) (numbers_below (points_said b)) ≡ false → (p : ℕ) → p < points_said b → (p ≡ home_said b → ⊥) → 2 ≤ how_many (eqb p) (track_said b).ends
  unfolding under_two
  not_under_two two_each p h m = go (decided (ltb (how_many (eqb p) (track_said b).ends) 2))
    where
      go : (ltb (how_many (eqb p) (track_said b).ends) 2 ≡ true) ⊎ (ltb (how_many (eqb p) (track_said b).ends) 2 ≡ false) → 2 ≤ how_many (eqb p) (track_said b).ends
      go (inl e) = both_ways (and_both (not (eqb p (home_said b))) (ltb (how_many (eqb p) (track_said b).ends) 2) (ap not (ne_eqb p (home_said b) m)) e) (any_below_false (under_two b) (points_said b) two_each p h)
      go (inr e) = ltb-false (how_many (eqb p) (track_said b).ends) 2 e

-- what the bytes say of the track and the position

module _ (b : List ℕ) where
  pub start_said : (w : ℕ) → w < 2 * zones_said b → start (track_said b) w ≡ end_said b w
  unfolding track_said
  start_said w h = get_or_map_below (end_said b) (2 * zones_said b) w 0 h

  -- a word starts at end A of its zone, or at end B
  pub said_a : (w : ℕ) → heading_of w ≡ 0 → end_said b w ≡ end_a b (zone_of w)
  said_a w e = ap (byte b) (let s : zone_from b (w / 2) + w % 2 ≡ zone_from b (zone_of w) + 0 = omega arith in s)

  pub said_b : (w : ℕ) → heading_of w ≡ 1 → end_said b w ≡ end_b b (zone_of w)
  said_b w e = ap (byte b) (let s : zone_from b (w / 2) + w % 2 ≡ zone_from b (zone_of w) + 1 = omega arith in s)

  pub start_a : (w : ℕ) → w < 2 * zones_said b → heading_of w ≡ 0 → start (track_said b) w ≡ end_a b (zone_of w)
  start_a w h e = start_said w h ∙ said_a w e

  pub start_b : (w : ℕ) → w < 2 * zones_said b → heading_of w ≡ 1 → start (track_said b) w ≡ end_b b (zone_of w)
  start_b w h e = start_said w h ∙ said_b w e

  pub heading_cases : (w : ℕ) → (heading_of w ≡ 0) ⊎ (heading_of w ≡ 1)
  heading_cases w = go (decided (eqb (heading_of w) 0))
    where
      go : (eqb (heading_of w) 0 ≡ true) ⊎ (eqb (heading_of w) 0 ≡ false) → (heading_of w ≡ 0) ⊎ (heading_of w ≡ 1)
      go (inl e) = inl (eqb-true (heading_of w) 0 e)
      go (inr e) = let q : heading_of w ≡ 0 → ⊥ = eqb-false (heading_of w) 0 e in inr (omega arith)

  pub length_position : length (position_said b) ≡ zones_said b
  unfolding position_said
  length_position = length-map (numbers_below (zones_said b)) (λ z. 2 * carrier_in b z + heading_in b z) ∙ length_below (zones_said b)

  pub at_said : (z : ℕ) → z < zones_said b → at (position_said b) z ≡ 2 * carrier_in b z + heading_in b z
  unfolding position_said
  at_said z h = get_or_map_below (λ z. 2 * carrier_in b z + heading_in b z) (zones_said b) z 0 h

  pub at_past : (z : ℕ) → zones_said b ≤ z → at (position_said b) z ≡ 0
  at_past z h = get_or-eq_default (position_said b) 0 (rw length_position h)

  pub length_ends : length (track_said b).ends ≡ 2 * zones_said b
  unfolding track_said
  length_ends = length-map (numbers_below (2 * zones_said b)) (end_said b) ∙ length_below (2 * zones_said b)

-- row 6 of words
pub start_in : (b : List ℕ) → any_of (bad_zone b) (numbers_below (zones_said b)) ≡ false → (w : ℕ) → w < 2 * zones_said b → start (track_said b) w < points_said b
start_in b zones w h = go (heading_cases b w)
  where
    good : GoodZone b (zone_of w)
    good = good_zone b zones (zone_of w) (zone_below (zones_said b) w h)

    go : (heading_of w ≡ 0) ⊎ (heading_of w ≡ 1) → start (track_said b) w < points_said b
    go (inl e) = rw (start_a b w h e) good.a_in
    go (inr e) = rw (start_b b w h e) good.b_in

-- a carrier has two bytes in version 2, one in version 1
pub carrier_wide : (b : List ℕ) (z : ℕ) → wide b ≡ true → carrier_in b z ≡ two_bytes b (zone_from b z + 2)
unfolding carrier_in
carrier_wide b z e = ap (λ (w : Bool). cond w (two_bytes b (zone_from b z + 2)) (byte b (zone_from b z + 2))) e

pub carrier_narrow : (b : List ℕ) (z : ℕ) → wide b ≡ false → carrier_in b z ≡ byte b (zone_from b z + 2)
unfolding carrier_in
carrier_narrow b z e = ap (λ (w : Bool). cond w (two_bytes b (zone_from b z + 2)) (byte b (zone_from b z + 2))) e

pub carrier_most : (b : List ℕ) → Bytes b → (z : ℕ) → carrier_in b z ≤ 65535
unfolding carrier_in
carrier_most b bytes z = cond_most (wide b) _ _ (omega (arith, bytes (zone_from b z + 2), bytes (zone_from b z + 2 + 1))) (omega (arith, bytes (zone_from b z + 2)))

module _ (b : List ℕ) (n : NoRow b) where
  -- the carrier of a standing is that of its zone
  stands_said : (c w : ℕ) → Stands (position_said b) c w → (zone_of w < zones_said b) × (carrier_in b (zone_of w) ≡ c) × (heading_in b (zone_of w) ≡ heading_of w)
  stands_said c w s =
      let h : zone_of w < zones_said b = rw length_position at s.inside in
      let e : 2 * carrier_in b (zone_of w) + heading_in b (zone_of w) ≡ 2 * c + heading_of w = sym (at_said b (zone_of w) h) ∙ s.holds in
      let g : heading_in b (zone_of w) ≤ 1 = (good_zone b n.zones (zone_of w) h).heading in
      (h, omega arith, omega arith)

  once_said : Once (position_said b)
  once_said c w v r s = go (decided (ltb (zone_of w) (zone_of v))) (decided (ltb (zone_of v) (zone_of w)))
    where
      x : (zone_of w < zones_said b) × (carrier_in b (zone_of w) ≡ c) × (heading_in b (zone_of w) ≡ heading_of w)
      x = stands_said c w r

      y : (zone_of v < zones_said b) × (carrier_in b (zone_of v) ≡ c) × (heading_in b (zone_of v) ≡ heading_of v)
      y = stands_said c v s

      go : (ltb (zone_of w) (zone_of v) ≡ true) ⊎ (ltb (zone_of w) (zone_of v) ≡ false) → (ltb (zone_of v) (zone_of w) ≡ true) ⊎ (ltb (zone_of v) (zone_of w) ≡ false) → w ≡ v
      go (inl e) d = absurd (carrier_once b n.repeats (zone_of w) (zone_of v) (ltb-true (zone_of w) (zone_of v) e) y.0 (λ q. r.numbered (sym y.1 ∙ q)) (x.1 ∙ sym y.1))
      go (inr e) (inl d) = absurd (carrier_once b n.repeats (zone_of v) (zone_of w) (ltb-true (zone_of v) (zone_of w) d) x.0 (λ q. r.numbered (sym x.1 ∙ q)) (y.1 ∙ sym x.1))
      go (inr e) (inr d) =
          let f : zone_of v ≤ zone_of w = ltb-false (zone_of w) (zone_of v) e in
          let g : zone_of w ≤ zone_of v = ltb-false (zone_of v) (zone_of w) d in
          let z : zone_of w ≡ zone_of v = omega arith in
          let k : heading_of w ≡ heading_of v = sym x.2 ∙ ap (heading_in b) z ∙ y.2 in
          omega arith

  zone_inside : (z : ℕ) → (z < zones_said b) ⊎ (zones_said b ≤ z)
  zone_inside z = ⊎_elim (λ e. inl (ltb-true z (zones_said b) e)) (λ e. inr (ltb-false z (zones_said b) e)) (decided (ltb z (zones_said b)))

  free_heading_said : (z : ℕ) → at (position_said b) z ≡ 1 → ⊥
  free_heading_said z e = go (zone_inside z)
    where
      go : (z < zones_said b) ⊎ (zones_said b ≤ z) → ⊥
      go (inl h) =
          let q : 2 * carrier_in b z + heading_in b z ≡ 1 = sym (at_said b z h) ∙ e in
          (good_zone b n.zones z h).free_heading (omega arith) (omega arith)
      go (inr h) = let q : at (position_said b) z ≡ 0 = at_past b z h in omega arith

  pub laid_said : Laid (track_said b) (position_said b)
  unfolding track_said
  laid_said = record { each = length_position b; once = once_said; free_heading = free_heading_said; inside = start_in b n.zones; home_in = (in_range b n.range).home_in }

  -- row 9: the test is false only where every two points are linked
  pub hangs_said : apart b ≡ false → HangsTogether (track_said b)
  unfolding apart track_said
  hangs_said together p q h k = linked_mono (track_said b) (λ z _ _. tt) (parts_linked (track_said b) (start_in b n.zones) (λ z. true) p q h k (of_home p h ∙ sym (of_home q k)))
    where
      ls : List ℕ
      ls = parts (track_said b) (λ z. true)

      like_home : ℕ → Bool
      like_home r = eqb (label ls r) (label ls (home_said b))

      of_home : (r : ℕ) → r < points_said b → label ls r ≡ label ls (home_said b)
      of_home r i = eqb-true (label ls r) (label ls (home_said b)) (all_below like_home (points_said b) (not-false (all_of like_home (numbers_below (points_said b))) together) r i)

  -- and true only where some point is not linked with home
  pub apart_said : apart b ≡ true → (r : ℕ) × (r < points_said b) × (Linked (track_said b) (λ z. Unit {0}) r (home_said b) → ⊥)
  unfolding apart track_said
  apart_said test =
      let x = all_below_false (λ r. eqb (label ls r) (label ls (home_said b))) (points_said b) (not-true (all_of (λ r. eqb (label ls r) (label ls (home_said b))) (numbers_below (points_said b))) test) in
      (x.0, x.1, λ l. eqb-false (label ls x.0) (label ls (home_said b)) x.2 (linked_parts (track_said b) (start_in b n.zones) (λ z. true) x.0 (home_said b) x.1 (linked_mono (track_said b) (λ z _ _. refl) l)))
    where
      ls : List ℕ
      ls = parts (track_said b) (λ z. true)

  limited_said : Bytes b → Limited (position_said b)
  limited_said bytes z = go (zone_inside z)
    where
      go : (z < zones_said b) ⊎ (zones_said b ≤ z) → at (position_said b) z < held_limit
      go (inl h) =
          let q : at (position_said b) z ≡ 2 * carrier_in b z + heading_in b z = at_said b z h in
          let k : carrier_in b z ≤ 65535 = carrier_most b bytes z in
          let g : heading_in b z ≤ 1 = (good_zone b n.zones z h).heading in
          omega arith
      go (inr h) = let q : at (position_said b) z ≡ 0 = at_past b z h in omega arith

-- a board of bytes that meets none of the refusals: its track is accepted
pub accepted_track : (b : List ℕ) → refusal b ≡ 0 → AcceptedTrack (track_said b)
unfolding track_said
accepted_track b e =
    let n : NoRow b = no_row b e in
    let r : InRange b = in_range b n.range in
    record {
      points_least = r.points_least;
      points_most = r.points_most;
      zones_least = r.zones_least;
      zones_most = r.zones_most;
      ends_count = length_ends b;
      two_zones = not_under_two b n.two_each;
      hangs = hangs_said b n (together b e);
    }

-- and its position is ready for the operations
pub ready_said : (b : List ℕ) → Bytes b → refusal b ≡ 0 → Ready (track_said b) (position_said b)
ready_said b bytes e =
    let n : NoRow b = no_row b e in
    let a : AcceptedTrack (track_said b) = accepted_track b e in
    record { bounded = record { laid = laid_said b n; points_most = a.points_most; zones_most = a.zones_most; ends_count = a.ends_count }; limited = limited_said b n bytes }

-- how many bytes an accepted board has
pub accepted_length : (b : List ℕ) → refusal b ≡ 0 → length b ≤ 486
accepted_length b e =
    let n : NoRow b = no_row b e in
    omega (arith, said_length b n.length_said_lem, said_count b n.zone_count, mul-le-mul (stride_most (wide b)) (in_range b n.range).zones_most)

-- 9 is given only where some two points are not linked
pub apart_nine : (b : List ℕ) → refusal b ≡ 9 → HangsTogether (track_said b) → ⊥
unfolding track_said
apart_nine b e hangs =
    let r = row_nine b e in
    let x = apart_said b r.0 r.1 in
    x.2 (hangs x.0 (home_said b) x.1 (in_range b r.0.range).home_in)

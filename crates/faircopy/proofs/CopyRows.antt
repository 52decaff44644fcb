-- The rows of the bytes of a board on an accepted board's track: rows 1 to 5 by the head and the length, 8 and 9 since the track is the board's; so
-- the refusal is 0, 6 or 7. Row 6 is met exactly where a word says free with heading 1, and none of them where the position is laid on the track.
-- The rows of what the bytes say (BytesSaid.antt), one by one.
use Prim.Native.Nat.{ℕ, ◌+◌, ◌*◌, ◌/◌, ◌≤◌, ◌<◌}
use native.Mathlib.Omega.{arith}
use mathlib.Core.List.{List}
use mathlib.Core.Path.{◌≡◌, refl, sym, ◌∙◌, ap, ap₂, subst₂}
use mathlib.Core.Bool.{Bool, true, false, cond, not, ◌&&◌, ◌||◌, true≢false}
use mathlib.Core.Logic.{◌⊎◌, inl, inr}
use lib.ListN.{length, get_or-eq_default}
use lib.Dec.{leb, ltb, eqb}
use borrow.Author.Tests.{le-ltb, lt-ltb, le-leb, eq-eqb, ne_eqb, eqb-true, ltb-true, ltb-false}
use Rattle.model.specs.Lists.{numbers_below, any_of, all_of, how_many}
use Rattle.model.specs.Track.{Track, heading_of, start}
use Rattle.model.specs.Position.{Position, at, carrier_of, Stands}
use Rattle.model.specs.Labels.{label, parts}
use Rattle.model.specs.Layout.{length_of}
use Rattle.model.specs.Accepted.{Laid}
use Rattle.model.specs.Reading.{length_said, wide, points_said, zones_said, carrier_in, too_short, wrong_length, wrong_version, out_of_range, wrong_count, bad_zone, repeated, under_two, apart, zone_refusal, track_said, refusal}
use Rattle.model.proofs.BoolLaws.{decided, and_left, and_right}
use Rattle.model.proofs.ListLaws.{any_below, below_any, any_below_false, below_any_false}
use Rattle.model.proofs.ReadingLaws.{NoRow, no_row, together, start_in, length_ends, laid_said}
use Rattle.faircopy.specs.BoardBytes.{head_bytes, board_bytes}
use Rattle.faircopy.proofs.BytesSaid.{CarriersFit, length_board, version_is, wide_is, zones_is, a_read, b_read, heading_read, carrier_read, track_read, position_read}

module _ (v : Bool) (t : Track) (p : Position) where
  row_1 : too_short (board_bytes v t p) ≡ false
  unfolding too_short
  row_1 = le-ltb (length (board_bytes v t p)) 6 (omega (arith, length_board v t p))

  said_length : length_said (board_bytes v t p) ≡ length_of v t.zones
  unfolding board_bytes head_bytes
  said_length = omega arith

  row_2 : wrong_length (board_bytes v t p) ≡ false
  unfolding wrong_length
  row_2 = ap not (eq-eqb (length_said (board_bytes v t p) + 2) (length (board_bytes v t p)) (omega (arith, said_length, length_board v t p)))

  row_3 : wrong_version (board_bytes v t p) ≡ false
  unfolding wrong_version
  row_3 = ap (λ (n : ℕ). not (eqb n 1 || eqb n 2)) (version_is v t p) ∙ go v
    where
      go : (v : Bool) → not (eqb (cond v 2 1) 1 || eqb (cond v 2 1) 2) ≡ false
      go true = refl
      go false = refl

  row_5 : wrong_count (board_bytes v t p) ≡ false
  unfolding wrong_count
  row_5 =
      ap not (eq-eqb (length_said (board_bytes v t p)) (length_of (wide (board_bytes v t p)) (zones_said (board_bytes v t p)))
      (said_length ∙ ap₂ length_of (sym (wide_is v t p)) (sym (zones_is v t p))))

module _ (b : List ℕ) (accepted : refusal b ≡ 0) (v : Bool) (p : Position) where
  -- the bytes of the board's track with another position
  abbrev c : List ℕ
  c = board_bytes v (track_said b) p

  abbrev rows : NoRow b
  rows = no_row b accepted

  track_same : track_said c ≡ track_said b
  unfolding track_said
  track_same = track_read v (track_said b) p (length_ends b)

  row_4 : out_of_range c ≡ false
  unfolding out_of_range board_bytes head_bytes track_said
  row_4 = rows.range

  under_same : (q : ℕ) → under_two c q ≡ under_two b q
  unfolding under_two track_said
  under_same q = ap (λ (t : Track). not (eqb q t.home) && ltb (how_many (eqb q) t.ends) 2) track_same

  row_8 : any_of (under_two c) (numbers_below (points_said b)) ≡ false
  row_8 = below_any_false (under_two c) (points_said b) (λ q l. under_same q ∙ any_below_false (under_two b) (points_said b) rows.two_each q l)

  row_9 : apart c ≡ false
  unfolding apart track_said
  row_9 =
      ap (λ (t : Track). not (all_of (λ q. eqb (label (parts t (λ z. true)) q) (label (parts t (λ z. true)) t.home)) (numbers_below t.points))) track_same ∙
      together b accepted

  -- rows 6 and 7 are left
  zone_rows : refusal c ≡ cond (any_of (bad_zone c) (numbers_below (zones_said b))) 6 (cond (any_of (repeated c) (numbers_below (zones_said b))) 7 0)
  unfolding refusal board_bytes head_bytes track_said
  zone_rows = simp (row_1 v (track_said b) p, row_2 v (track_said b) p, row_3 v (track_said b) p, row_4, row_5 v (track_said b) p, row_8, row_9)

  pub only_zone_rows : refusal c ≡ zone_refusal c
  unfolding zone_refusal track_said
  only_zone_rows = zone_rows ∙ ap (λ (n : ℕ). cond (any_of (bad_zone c) (numbers_below n)) 6 (cond (any_of (repeated c) (numbers_below n)) 7 0)) (sym (zones_is v (track_said b) p))

  -- row 6, of one zone: its ends are points and its heading is one, so it is met where the word is 1
  module _ (fits : CarriersFit v p) (z : ℕ) (inside : z < zones_said b) where
    bad_is : bad_zone c z ≡ (eqb (carrier_of (at p z)) 0 && eqb (heading_of (at p z)) 1)
    unfolding bad_zone track_said board_bytes head_bytes
    bad_is =
        (λ i.
        not (ltb (a_read v (track_said b) p z inside i) (points_said b)) ||
        (not (ltb (b_read v (track_said b) p z inside i) (points_said b)) ||
        (not (leb (heading_read v (track_said b) p z inside i) 1) ||
        (eqb (carrier_read v (track_said b) p z inside fits i) 0 && eqb (heading_read v (track_said b) p z inside i) 1)))) ∙
        simp (
          lt-ltb (start (track_said b) (2 * z)) (points_said b) (start_in b rows.zones (2 * z) (omega arith)),
          lt-ltb (start (track_said b) (2 * z + 1)) (points_said b) (start_in b rows.zones (2 * z + 1) (omega arith)),
          le-leb (heading_of (at p z)) 1 (omega arith),
        )

    bad_word : at p z ≡ 1 → bad_zone c z ≡ true
    bad_word e = bad_is ∙ simp (eq-eqb (carrier_of (at p z)) 0 (omega arith), eq-eqb (heading_of (at p z)) 1 (omega arith))

    good_word : (at p z ≡ 1 → ⊥) → bad_zone c z ≡ false
    good_word n = bad_is ∙ go (eqb (carrier_of (at p z)) 0) refl
      where
        go : (s : Bool) → eqb (carrier_of (at p z)) 0 ≡ s → (s && eqb (heading_of (at p z)) 1) ≡ false
        go true e = let q : carrier_of (at p z) ≡ 0 = eqb-true (carrier_of (at p z)) 0 e in ne_eqb (heading_of (at p z)) 1 (λ h. n (omega arith))
        go false e = refl

  module _ (each : length p ≡ zones_said b) (fits : CarriersFit v p) where
    -- what stands in a zone stands in one of the zones
    within : (z : ℕ) → (at p z ≡ 0 → ⊥) → z < zones_said b
    within z n = go (ltb z (zones_said b)) refl
      where
        go : (s : Bool) → ltb z (zones_said b) ≡ s → z < zones_said b
        go true e = ltb-true z (zones_said b) e
        go false e = absurd (n (get_or-eq_default p 0 (let l : zones_said b ≤ z = ltb-false z (zones_said b) e in omega arith)))

    pub six_of : (z : ℕ) → at p z ≡ 1 → refusal c ≡ 6
    unfolding track_said
    six_of z e =
        let inside = within z (λ n. let q : at p z ≡ 0 = n in omega arith) in
        zone_rows ∙ simp (below_any (bad_zone c) (zones_said b) z inside (bad_word fits z inside e))

    no_bad : ((z : ℕ) → at p z ≡ 1 → ⊥) → any_of (bad_zone c) (numbers_below (zones_said b)) ≡ false
    no_bad n = below_any_false (bad_zone c) (zones_said b) (λ z l. good_word fits z l (n z))

    -- row 7, of one zone: where its carrier stands in an earlier zone too, it stands in two
    once_each : Laid (track_said b) p → (z : ℕ) → z < zones_said b → repeated c z ≡ false
    unfolding repeated track_said
    once_each laid z inside = go (decided (repeated c z))
      where
        same : ℕ → Bool
        same y = eqb (carrier_in c y) (carrier_in c z)

        stands : (y : ℕ) → y < zones_said b → carrier_in c y ≡ carrier_in c z → (carrier_in c z ≡ 0 → ⊥) → Stands p (carrier_in c z) (2 * y + heading_of (at p y))
        stands y l e n =
            let read : carrier_in c y ≡ carrier_of (at p y) = carrier_read v (track_said b) p y l fits in
            let zone : (2 * y + heading_of (at p y)) / 2 ≡ y = omega arith in
            record {
              numbered = n;
              inside = omega arith;
              holds = ap (at p) zone ∙ omega arith;
            }

        go : (repeated c z ≡ true) ⊎ (repeated c z ≡ false) → repeated c z ≡ false
        go (inr e) = e
        go (inl e) =
            let n : carrier_in c z ≡ 0 → ⊥ = λ q. eqb_not (and_left (not (eqb (carrier_in c z) 0)) (any_of same (numbers_below z)) e) q in
            let y = any_below same z (and_right (not (eqb (carrier_in c z) 0)) (any_of same (numbers_below z)) e) in
            let l : y.0 < z = y.1 in
            let w = laid.once (carrier_in c z) (2 * y.0 + heading_of (at p y.0)) (2 * z + heading_of (at p z))
            (stands y.0 (omega arith) (eqb-true (carrier_in c y.0) (carrier_in c z) y.2) n) (stands z inside refl n) in
            absurd (omega arith)
          where
            eqb_not : not (eqb (carrier_in c z) 0) ≡ true → carrier_in c z ≡ 0 → ⊥
            eqb_not f q = true≢false (sym f ∙ ap not (eq-eqb (carrier_in c z) 0 q))

    -- 0 exactly where the position is laid on the track

    pub zero_of : Laid (track_said b) p → refusal c ≡ 0
    unfolding track_said
    zero_of laid =
        zone_rows ∙
        simp (no_bad laid.free_heading, below_any_false (repeated c) (zones_said b) (once_each laid))

    pub laid_of : refusal c ≡ 0 → Laid (track_said b) p
    unfolding track_said
    laid_of e = subst₂ Laid track_same (position_read v (track_said b) p each fits) (laid_said c (no_row c e))

    -- 6 where a word is 1 alone
    pub word_of : refusal c ≡ 6 → (z : ℕ) × (at p z ≡ 1)
    unfolding track_said
    word_of e = go (decided (any_of (bad_zone c) (numbers_below (zones_said b))))
      where
        past : any_of (bad_zone c) (numbers_below (zones_said b)) ≡ false → (s : Bool) → refusal c ≡ cond s 7 0 → ⊥
        past f true q = let z : ◌≡◌ {A = ℕ} 6 7 = sym e ∙ q in omega arith
        past f false q = let z : ◌≡◌ {A = ℕ} 6 0 = sym e ∙ q in omega arith

        go : (any_of (bad_zone c) (numbers_below (zones_said b)) ≡ true) ⊎ (any_of (bad_zone c) (numbers_below (zones_said b)) ≡ false) → (z : ℕ) × (at p z ≡ 1)
        go (inl f) = let y = any_below (bad_zone c) (zones_said b) f in (y.0, one y.0 y.1 y.2)
          where
            one : (z : ℕ) → z < zones_said b → bad_zone c z ≡ true → at p z ≡ 1
            one z l h =
                let both : (eqb (carrier_of (at p z)) 0 && eqb (heading_of (at p z)) 1) ≡ true = sym (bad_is fits z l) ∙ h in
                let x : carrier_of (at p z) ≡ 0 = eqb-true (carrier_of (at p z)) 0 (and_left (eqb (carrier_of (at p z)) 0) (eqb (heading_of (at p z)) 1) both) in
                let y : heading_of (at p z) ≡ 1 = eqb-true (heading_of (at p z)) 1 (and_right (eqb (carrier_of (at p z)) 0) (eqb (heading_of (at p z)) 1) both) in
                omega arith
        go (inr f) = absurd (past f (any_of (repeated c) (numbers_below (zones_said b))) (zone_rows ∙ simp f))

  -- no other number is left
  pub three : (refusal c ≡ 0) ⊎ (refusal c ≡ 6) ⊎ (refusal c ≡ 7)
  three = go (any_of (bad_zone c) (numbers_below (zones_said b))) (any_of (repeated c) (numbers_below (zones_said b))) zone_rows
    where
      go : (r s : Bool) → refusal c ≡ cond r 6 (cond s 7 0) → (refusal c ≡ 0) ⊎ (refusal c ≡ 6) ⊎ (refusal c ≡ 7)
      go true s e = inr (inl e)
      go false true e = inr (inr e)
      go false false e = inl e

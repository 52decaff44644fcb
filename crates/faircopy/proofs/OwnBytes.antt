-- An accepted board of bytes is the bytes of its own track and position in its own version: an accepted board has no byte that its version, its track
-- and its position don't fix. So a fair copy is the only one.
-- Byte by byte: the head by rows 2, 3 and 5, each byte of an entry by what the reader takes from its place.
use Prim.Native.Nat.{ℕ, zero, suc, ◌+◌, ◌-◌, ◌*◌, ◌/◌, ◌%◌, ◌≤◌, ◌<◌}
use native.Mathlib.Omega.{arith}
use mathlib.Core.List.{List}
use mathlib.Core.Path.{◌≡◌, refl, sym, ◌∙◌, ap, subst}
use mathlib.Core.Bool.{Bool, true, false, cond}
use mathlib.Core.Logic.{◌⊎◌, inl, inr}
use lib.ListN.{length}
use lib.Seq.{ext_get_or}
use lib.Dec.{ltb, eqb}
use borrow.Author.Tests.{eqb-true, not-false, ltb-true, ltb-false}
use Rattle.model.specs.Track.{heading_of}
use Rattle.model.specs.Position.{at, carrier_of}
use Rattle.model.specs.Layout.{stride, length_of}
use Rattle.model.specs.Reading.{byte, Bytes, wide, zone_from, length_said, version_said, zones_said, end_a, end_b, carrier_in, heading_in, wrong_version, track_said, position_said, refusal}
use Rattle.model.proofs.BoolLaws.{both_ways, or_cases}
use Rattle.model.proofs.LayoutLaws.{five, four}
use Rattle.model.proofs.ReadingLaws.{no_row, carrier_wide, carrier_narrow, said_length, said_count, good_zone, start_a, start_b, at_said}
use Rattle.faircopy.specs.BoardBytes.{head_bytes, entry_byte, board_bytes}
use Rattle.faircopy.proofs.BytesSaid.{length_board, at_place, a_byte, b_byte, high_byte_lem, low_byte_lem, one_byte, heading_byte}

module _ (b : List ℕ) (bytes : Bytes b) (accepted : refusal b ≡ 0) where
  -- rows 2, 5 and 3
  length_said_lem : length_said b + 2 ≡ length b
  length_said_lem = said_length b (no_row b accepted).length_said_lem

  length_count : length_said b ≡ length_of (wide b) (zones_said b)
  length_count = said_count b (no_row b accepted).zone_count

  pub version_said_lem : cond (wide b) 2 1 ≡ version_said b
  unfolding wrong_version
  version_said_lem = go (eqb (version_said b) 2) refl (or_cases (eqb (version_said b) 1) (eqb (version_said b) 2) (not-false _ (no_row b accepted).version))
    where
      go : (s : Bool) → eqb (version_said b) 2 ≡ s → (eqb (version_said b) 1 ≡ true) ⊎ (eqb (version_said b) 2 ≡ true) → cond s 2 1 ≡ version_said b
      go true e o = sym (eqb-true (version_said b) 2 e)
      go false e (inl o) = sym (eqb-true (version_said b) 1 o)
      go false e (inr o) = both_ways o e

  module _ (z : ℕ) (inside : z < zones_said b) where
    pub carrier_said : carrier_of (at (position_said b) z) ≡ carrier_in b z
    carrier_said = omega (arith, at_said b z inside, (good_zone b (no_row b accepted).zones z inside).heading)

    heading_said : heading_of (at (position_said b) z) ≡ heading_in b z
    heading_said = omega (arith, at_said b z inside, (good_zone b (no_row b accepted).zones z inside).heading)

    -- each byte of an entry
    a_said : entry_byte (wide b) (track_said b) (position_said b) z 0 ≡ byte b (zone_from b z + 0)
    a_said = a_byte (track_said b) (position_said b) z (wide b) ∙ start_a b (2 * z) (omega arith) (omega arith) ∙ ap (end_a b) (let q : 2 * z / 2 ≡ z = omega arith in q)

    b_said : entry_byte (wide b) (track_said b) (position_said b) z 1 ≡ byte b (zone_from b z + 1)
    b_said = b_byte (track_said b) (position_said b) z (wide b) ∙ start_b b (2 * z + 1) (omega arith) (omega arith) ∙ ap (end_b b) (let q : (2 * z + 1) / 2 ≡ z = omega arith in q)

    last_said : (k : ℕ) → k ≡ stride (wide b) - 1 → entry_byte (wide b) (track_said b) (position_said b) z k ≡ byte b (zone_from b z + k)
    last_said k e =
        ap (entry_byte (wide b) (track_said b) (position_said b) z) e ∙ heading_byte (track_said b) (position_said b) z (wide b) ∙ heading_said
        ∙ ap (λ (i : ℕ). byte b (zone_from b z + i)) (sym e)

    high_said : wide b ≡ true → entry_byte (wide b) (track_said b) (position_said b) z 2 ≡ byte b (zone_from b z + 2)
    high_said e =
        ap (λ (w : Bool). entry_byte w (track_said b) (position_said b) z 2) e ∙ high_byte_lem (track_said b) (position_said b) z ∙
        omega (arith, carrier_said, carrier_wide b z e, bytes (zone_from b z + 2 + 1))

    low_said : wide b ≡ true → entry_byte (wide b) (track_said b) (position_said b) z 3 ≡ byte b (zone_from b z + 3)
    low_said e =
        ap (λ (w : Bool). entry_byte w (track_said b) (position_said b) z 3) e ∙ low_byte_lem (track_said b) (position_said b) z ∙
        omega (arith, carrier_said, carrier_wide b z e, bytes (zone_from b z + 2 + 1)) ∙
        ap (byte b) (let q : zone_from b z + 2 + 1 ≡ zone_from b z + 3 = omega arith in q)

    one_said : wide b ≡ false → entry_byte (wide b) (track_said b) (position_said b) z 2 ≡ byte b (zone_from b z + 2)
    one_said e =
        ap (λ (w : Bool). entry_byte w (track_said b) (position_said b) z 2) e ∙ one_byte (track_said b) (position_said b) z ∙
        omega (arith, carrier_said, carrier_narrow b z e, bytes (zone_from b z + 2))

    pub entry_said : (k : ℕ) → k < stride (wide b) → entry_byte (wide b) (track_said b) (position_said b) z k ≡ byte b (zone_from b z + k)
    entry_said zero small = a_said
    entry_said (suc zero) small = b_said
    entry_said (suc (suc k)) small = go (wide b) refl k small
      where
        go : (w : Bool) → wide b ≡ w → (k : ℕ) → suc (suc k) < stride (wide b) → entry_byte (wide b) (track_said b) (position_said b) z (suc (suc k)) ≡ byte b (zone_from b z + suc (suc k))
        go true e zero l = high_said e
        go true e (suc zero) l = low_said e
        go true e (suc (suc zero)) l = last_said 4 (omega (arith, five e))
        go true e (suc (suc (suc k))) l = absurd (omega (arith, five e))
        go false e zero l = one_said e
        go false e (suc zero) l = last_said 3 (omega (arith, four e))
        go false e (suc (suc k)) l = absurd (omega (arith, four e))

  -- the first six bytes
  head_said : (i : ℕ) → i < 6 → byte (board_bytes (wide b) (track_said b) (position_said b)) i ≡ byte b i
  unfolding board_bytes head_bytes track_said
  head_said zero l = omega (arith, length_count, bytes 1)
  head_said (suc zero) l = omega (arith, length_count, bytes 1)
  head_said (suc (suc zero)) l = version_said_lem
  head_said (suc (suc (suc zero))) l = refl
  head_said (suc (suc (suc (suc zero)))) l = refl
  head_said (suc (suc (suc (suc (suc zero))))) l = refl
  head_said (suc (suc (suc (suc (suc (suc i)))))) l = absurd (omega arith)

  -- a byte past them is one of an entry's
  record Placed (j : ℕ) : Type 0 where
    zone : ℕ
    place : ℕ
    inside : zone < zones_said b
    small : place < stride (wide b)
    is : j ≡ zone_from b zone + place

  placed : (j : ℕ) → 6 ≤ j → j < length b → Placed j
  placed j past below = go (wide b) refl
    where
      go : (w : Bool) → wide b ≡ w → Placed j
      go true e =
          let s : 5 ≡ stride (wide b) = five e in
          let times : (n : ℕ) → stride (wide b) * n ≡ 5 * n = λ n. ap (λ (s : ℕ). s * n) (sym s) in
          record {
            zone = (j - 6) / 5;
            place = (j - 6) % 5;
            inside = omega (arith, length_said_lem, length_count, times (zones_said b));
            small = omega arith;
            is = omega (arith, times ((j - 6) / 5));
          }
      go false e =
          let s : 4 ≡ stride (wide b) = four e in
          let times : (n : ℕ) → stride (wide b) * n ≡ 4 * n = λ n. ap (λ (s : ℕ). s * n) (sym s) in
          record {
            zone = (j - 6) / 4;
            place = (j - 6) % 4;
            inside = omega (arith, length_said_lem, length_count, times (zones_said b));
            small = omega arith;
            is = omega (arith, times ((j - 6) / 4));
          }

  pub own_bytes : board_bytes (wide b) (track_said b) (position_said b) ≡ b
  unfolding track_said
  own_bytes = ext_get_or 0 (board_bytes (wide b) (track_said b) (position_said b)) b as_long (λ i h. go i (ltb i 6) refl h)
    where
      as_long : length (board_bytes (wide b) (track_said b) (position_said b)) ≡ length b
      as_long = length_board (wide b) (track_said b) (position_said b) ∙ omega (arith, length_said_lem, length_count)

      go : (i : ℕ) (s : Bool) → ltb i 6 ≡ s → i < length (board_bytes (wide b) (track_said b) (position_said b)) → byte (board_bytes (wide b) (track_said b) (position_said b)) i ≡ byte b i
      go i true e h = head_said i (ltb-true i 6 e)
      go i false e h =
          let x = placed i (ltb-false i 6 e) (subst (λ (n : ℕ). i < n) as_long h) in
          ap (byte (board_bytes (wide b) (track_said b) (position_said b))) x.is ∙
          at_place (wide b) (track_said b) (position_said b) x.zone x.place x.inside x.small ∙
          entry_said x.zone x.inside x.place x.small ∙
          ap (byte b) (sym x.is)

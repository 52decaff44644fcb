-- The bytes that are written are a fair copy, and the only one: they say the track and the position that they were made of, and an accepted board has
-- no byte that its version, its track and its position don't fix.
use Prim.Native.Nat.{ℕ, zero, suc, ◌+◌, ◌*◌, ◌/◌, ◌%◌, ◌≤◌, ◌<◌}
use native.Mathlib.Omega.{arith}
use native.Mathlib.Nat.{mul-le-mul}
use mathlib.Core.List.{List}
use mathlib.Core.Path.{◌≡◌, refl, sym, ◌∙◌, ap, subst}
use mathlib.Core.Bool.{Bool, true, false, cond, ◌&&◌}
use mathlib.Core.Logic.{◌⊎◌, inl, inr}
use lib.ListN.{length, get_or, get_or-eq_default}
use lib.Dec.{eqb, ltb}
use borrow.Author.Tests.{eq-eqb, ltb-true, ltb-false}
use Rattle.model.specs.Lists.{numbers_below}
use Rattle.model.specs.Track.{Track, heading_of, start}
use Rattle.model.specs.Position.{Position, at, carrier_of}
use Rattle.model.specs.Layout.{stride, entry_from, end_place, carrier_place, heading_place}
use Rattle.model.specs.Accepted.{Limited}
use Rattle.model.specs.Reading.{byte, Bytes, wide, zone_from, version_said, zones_said, track_said, position_said, refusal}
use Rattle.model.proofs.PlaceLaws.{get_or_map_below}
use Rattle.model.proofs.LayoutLaws.{five, four, stride_least, stride_most}
use Rattle.model.proofs.ReadingLaws.{InRange, no_row, said_length, said_count, carrier_narrow, in_range, start_in, length_ends, at_past}
use Rattle.faircopy.specs.BoardBytes.{head_bytes, entry_byte, entry_bytes, board_bytes, needs_two, copy_bytes}
use Rattle.faircopy.specs.FairCopy.{AllFit, SomeOver, FairCopy, Enough}
use Rattle.faircopy.specs.WriteRight.{OwnPosition, WrittenRight}
use Rattle.faircopy.proofs.Entries.{small_entries}
use Rattle.faircopy.proofs.BytesSaid.{length_entry, length_board, version_is, track_read, position_read}
use Rattle.faircopy.proofs.OwnBytes.{version_said_lem, carrier_said, own_bytes}
use Rattle.faircopy.proofs.Words.{all_fit, some_over, over_not_fit, needs_two_lem, needs_one}

-- every number of them is a byte
module _ (b : List ℕ) (accepted : refusal b ≡ 0) (v : Bool) (p : Position) (limited : Limited p) where
  cond_small : (s : Bool) {x y : ℕ} → x < 256 → y < 256 → cond s x y < 256
  cond_small true l m = l
  cond_small false l m = m

  start_small : (w : ℕ) → start (track_said b) w < 256
  start_small w = go (ltb w (2 * zones_said b)) refl
    where
      go : (s : Bool) → ltb w (2 * zones_said b) ≡ s → start (track_said b) w < 256
      go true e = omega (arith, start_in b (no_row b accepted).zones w (ltb-true w (2 * zones_said b) e), (in_range b (no_row b accepted).range).points_most)
      go false e =
          let past : start (track_said b) w ≡ 0 = get_or-eq_default (track_said b).ends 0 (let l : 2 * zones_said b ≤ w = ltb-false w (2 * zones_said b) e in omega (arith, length_ends b)) in
          omega arith

  byte_small : (z k : ℕ) → entry_byte v (track_said b) p z k < 256
  unfolding entry_byte
  byte_small z k =
      let heading : heading_of (at p z) < 256 = omega arith in
      let high : carrier_of (at p z) / 256 < 256 = omega (arith, limited z) in
      let low : carrier_of (at p z) % 256 < 256 = omega arith in
      cond_small (eqb k (end_place 0)) (start_small (2 * z)) (cond_small (eqb k (end_place 1)) (start_small (2 * z + 1)) (cond_small (eqb k (heading_place v)) heading (cond_small (v && eqb k carrier_place) high low)))

  entry_small : (z k : ℕ) → get_or (entry_bytes v (track_said b) p z) k 0 < 256
  unfolding entry_bytes
  entry_small z k = go (ltb k (stride v)) refl
    where
      go : (s : Bool) → ltb k (stride v) ≡ s → get_or (entry_bytes v (track_said b) p z) k 0 < 256
      go true e = rw (get_or_map_below (entry_byte v (track_said b) p z) (stride v) k 0 (ltb-true k (stride v) e)) (byte_small z k)
      go false e =
          let past : get_or (entry_bytes v (track_said b) p z) k 0 ≡ 0 = get_or-eq_default (entry_bytes v (track_said b) p z) 0 (let l : stride v ≤ k = ltb-false k (stride v) e in omega (arith, length_entry v (track_said b) p z)) in
          omega arith

  pub copy_bytes_lem : Bytes (board_bytes v (track_said b) p)
  unfolding board_bytes head_bytes track_said
  copy_bytes_lem =
      let r : InRange b = in_range b (no_row b accepted).range in
      let most : stride v * zones_said b ≤ 5 * 96 = mul-le-mul (stride_most v) r.zones_most in
      by r most
    where
      by : InRange b → stride v * zones_said b ≤ 5 * 96 → (i : ℕ) → byte (board_bytes v (track_said b) p) i < 256
      by r most zero = omega arith
      by r most (suc zero) = omega arith
      by r most (suc (suc zero)) = cond_small v (omega arith) (omega arith)
      by r most (suc (suc (suc zero))) = omega (arith, r.points_most)
      by r most (suc (suc (suc (suc zero)))) = omega (arith, r.points_most, r.home_in)
      by r most (suc (suc (suc (suc (suc zero))))) = omega (arith, r.zones_most)
      by r most (suc (suc (suc (suc (suc (suc i)))))) = small_entries (entry_bytes v (track_said b) p) (stride v) (length_entry v (track_said b) p) 256 (omega arith) entry_small (numbers_below (zones_said b)) i

-- the version by the carriers
module _ (t : Track) (p : Position) where
  version_one : needs_two p ≡ false → version_said (copy_bytes t p) ≡ 1
  version_one e = version_is (needs_two p) t p ∙ ap (λ (s : Bool). cond s 2 1) e

  version_two : needs_two p ≡ true → version_said (copy_bytes t p) ≡ 2
  version_two e = version_is (needs_two p) t p ∙ ap (λ (s : Bool). cond s 2 1) e

  one_fits : version_said (copy_bytes t p) ≡ 1 → AllFit p
  one_fits e = go (needs_two p) refl
    where
      go : (s : Bool) → needs_two p ≡ s → AllFit p
      go true f = absurd (let q : ◌≡◌ {A = ℕ} 2 1 = sym (version_two f) ∙ e in omega arith)
      go false f = all_fit p f

  two_over : version_said (copy_bytes t p) ≡ 2 → SomeOver p
  two_over e = go (needs_two p) refl
    where
      go : (s : Bool) → needs_two p ≡ s → SomeOver p
      go true f = some_over p f
      go false f = absurd (let q : ◌≡◌ {A = ℕ} 1 2 = sym (version_one f) ∙ e in omega arith)

-- how many bytes the copy has

module _ (t : Track) (p : Position) where
  narrow_length : AllFit p → length (copy_bytes t p) ≡ 6 + 4 * t.zones
  narrow_length fit = let s : stride (needs_two p) * t.zones ≡ 4 * t.zones = ap (λ (n : ℕ). n * t.zones) (sym (four (needs_one p fit))) in omega (arith, length_board (needs_two p) t p)

  wide_length : SomeOver p → length (copy_bytes t p) ≡ 6 + 5 * t.zones
  wide_length over = let s : stride (needs_two p) * t.zones ≡ 5 * t.zones = ap (λ (n : ℕ). n * t.zones) (sym (five (needs_two_lem p over))) in omega (arith, length_board (needs_two p) t p)

  pub enough_of : {room : ℕ} → length (copy_bytes t p) ≤ room → Enough t p room
  enough_of h = record { narrow = λ fit. omega (arith, narrow_length fit); wide = λ over. omega (arith, wide_length over) }

  pub of_enough : {room : ℕ} → Enough t p room → length (copy_bytes t p) ≤ room
  of_enough {room} e = go (needs_two p) refl
    where
      go : (s : Bool) → needs_two p ≡ s → length (copy_bytes t p) ≤ room
      go true f = let over = some_over p f in omega (arith, wide_length over, e.wide over)
      go false f = let fit = all_fit p f in omega (arith, narrow_length fit, e.narrow fit)

pub copy_fair : (b : List ℕ) → refusal b ≡ 0 → (p : Position) → length p ≡ (track_said b).zones → Limited p → refusal (copy_bytes (track_said b) p) ≡ 0 → FairCopy (track_said b) p (copy_bytes (track_said b) p)
unfolding track_said
copy_fair b accepted p each limited none = record {
  bytes = copy_bytes_lem b accepted (needs_two p) p limited;
  accepted = none;
  track = track_read (needs_two p) (track_said b) p (length_ends b);
  position = position_read (needs_two p) (track_said b) p each (all_fit p);
  version_1 = (one_fits (track_said b) p, λ fit. version_one (track_said b) p (needs_one p fit));
  version_2 = (two_over (track_said b) p, λ over. version_two (track_said b) p (needs_two_lem p over));
}

-- a fair copy is wide exactly where a carrier doesn't fit one byte
wide_of : {t : Track} {p : Position} {d : List ℕ} → FairCopy t p d → wide d ≡ needs_two p
wide_of {p = p} {d} fair = go (needs_two p) refl
  where
    go : (s : Bool) → needs_two p ≡ s → wide d ≡ s
    go true e = eq-eqb (version_said d) 2 (fair.version_2.1 (some_over p e))
    go false e = ap (λ (n : ℕ). eqb n 2) (fair.version_1.1 (all_fit p e))

pub copy_one : {t : Track} {p : Position} (d : List ℕ) → FairCopy t p d → d ≡ copy_bytes t p
copy_one d fair = sym (own_bytes d fair.bytes fair.accepted) ∙ (λ i. board_bytes (wide_of fair i) (fair.track i) (fair.position i))

-- a board with its own position: it is its own fair copy in version 1, and where a carrier is over 255
module _ (b : List ℕ) (bytes : Bytes b) (accepted : refusal b ≡ 0) where
  -- in version 1 every carrier fits
  narrow_fits : version_said b ≡ 1 → AllFit (position_said b)
  narrow_fits e z = go (ltb z (zones_said b)) refl
    where
      narrow : wide b ≡ false
      narrow = ap (λ (n : ℕ). eqb n 2) e

      go : (s : Bool) → ltb z (zones_said b) ≡ s → carrier_of (at (position_said b) z) ≤ 255
      go true h = omega (arith, carrier_said b bytes accepted z (ltb-true z (zones_said b) h), carrier_narrow b z narrow, bytes (zone_from b z + 2))
      go false h = omega (arith, at_past b z (ltb-false z (zones_said b) h))

  one_or_two : (version_said b ≡ 1) ⊎ (version_said b ≡ 2)
  one_or_two = go (wide b) refl
    where
      go : (s : Bool) → wide b ≡ s → (version_said b ≡ 1) ⊎ (version_said b ≡ 2)
      go true e = inr (sym (version_said_lem b bytes accepted) ∙ ap (λ (s : Bool). cond s 2 1) e)
      go false e = inl (sym (version_said_lem b bytes accepted) ∙ ap (λ (s : Bool). cond s 2 1) e)

  -- its own copy is no longer
  pub own_enough : {room : ℕ} → length b ≤ room → Enough (track_said b) (position_said b) room
  unfolding track_said
  own_enough {room} h = record {
    narrow = λ fit. omega (arith, long, four_times);
    wide = λ over. let s : stride (wide b) * zones_said b ≡ 5 * zones_said b = ap (λ (n : ℕ). n * zones_said b) (sym (five (wide_over one_or_two over))) in omega (arith, long);
  }
    where
      long : length b ≡ entry_from (wide b) (zones_said b)
      long = let n = no_row b accepted in omega (arith, said_length b n.length_said_lem, said_count b n.zone_count)

      four_times : 4 * zones_said b ≤ stride (wide b) * zones_said b
      four_times = mul-le-mul (stride_least (wide b)) (let l : zones_said b ≤ zones_said b = omega arith in l)

      wide_over : (version_said b ≡ 1) ⊎ (version_said b ≡ 2) → SomeOver (position_said b) → wide b ≡ true
      wide_over (inl e) over = absurd (over_not_fit (position_said b) over (narrow_fits e))
      wide_over (inr e) over = eq-eqb (version_said b) 2 e

  own_fair : (version_said b ≡ 1) ⊎ SomeOver (position_said b) → FairCopy (track_said b) (position_said b) b
  own_fair o = record {
    bytes = bytes;
    accepted = accepted;
    track = refl;
    position = refl;
    version_1 = (narrow_fits, λ fit. narrow o fit);
    version_2 = (λ e. over o e, λ some. two one_or_two some);
  }
    where
      narrow : (version_said b ≡ 1) ⊎ SomeOver (position_said b) → AllFit (position_said b) → version_said b ≡ 1
      narrow (inl e) fit = e
      narrow (inr s) fit = absurd (over_not_fit (position_said b) s fit)

      over : (version_said b ≡ 1) ⊎ SomeOver (position_said b) → version_said b ≡ 2 → SomeOver (position_said b)
      over (inl e) f = absurd (let q : ◌≡◌ {A = ℕ} 1 2 = sym e ∙ f in omega arith)
      over (inr s) f = s

      two : (version_said b ≡ 1) ⊎ (version_said b ≡ 2) → SomeOver (position_said b) → version_said b ≡ 2
      two (inl e) some = absurd (over_not_fit (position_said b) some (narrow_fits e))
      two (inr e) some = e

-- what is written is right
pub written_right : (b : List ℕ) → Bytes b → refusal b ≡ 0 → (p : Position) → length p ≡ (track_said b).zones → Limited p → refusal (copy_bytes (track_said b) p) ≡ 0 → WrittenRight b p (copy_bytes (track_said b) p)
written_right b bytes accepted p each limited none =
    let fair = copy_fair b accepted p each limited none in
    record { fair = fair; one = copy_one; own = λ e. own_of e fair }
  where
    own_of : p ≡ position_said b → FairCopy (track_said b) p (copy_bytes (track_said b) p) → OwnPosition b (copy_bytes (track_said b) p)
    own_of e fair = record {
      back = λ o. ap (copy_bytes (track_said b)) e ∙ sym (copy_one b (own_fair b bytes accepted o));
      narrowed = λ v fit. (fair.version_1.1 (subst AllFit (sym e) fit), fair.track, fair.position ∙ e);
    }

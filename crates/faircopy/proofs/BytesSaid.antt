-- What the bytes of a board say: the version, the track and the position that they were made of.
-- Byte by byte: a byte of an entry is the one at its place (Entries.antt), and what the reader takes from these places is what was put there.
use Prim.Native.Nat.{ℕ, ◌+◌, ◌*◌, ◌≤◌, ◌<◌}
use native.Mathlib.Omega.{arith}
use mathlib.Core.List.{map, flatten}
use mathlib.Core.Path.{◌≡◌, refl, sym, ◌∙◌, ap, ap₂, subst}
use mathlib.Core.Logic.{◌⊎◌, inl, inr}
use mathlib.Core.Bool.{Bool, true, false, cond}
use lib.ListN.{length, get_or, length-map}
use lib.Seq.{get_or-append-add, ext_get_or}
use lib.Dec.{eqb}
use Rattle.model.specs.Lists.{numbers_below}
use Rattle.model.specs.Track.{Track, zone_of, heading_of, start}
use Rattle.model.specs.Position.{Position, at, carrier_of}
use Rattle.model.specs.Layout.{stride, entry_from, heading_place, high_byte, low_byte}
use Rattle.model.specs.Reading.{byte, wide, zone_from, version_said, zones_said, end_a, end_b, carrier_in, heading_in, end_said, track_said, position_said}
use Rattle.model.proofs.ListLaws.{length_below, get_or_below}
use Rattle.model.proofs.PlaceLaws.{get_or_map_below}
use Rattle.model.proofs.WordLaws.{zone_below}
use Rattle.model.proofs.LayoutLaws.{stride_least}
use Rattle.model.proofs.ReadingLaws.{length_position, at_said, said_a, said_b, heading_cases, carrier_wide, carrier_narrow}
use Rattle.faircopy.specs.BoardBytes.{head_bytes, entry_byte, entry_bytes, board_bytes}
use Rattle.faircopy.proofs.Entries.{length_entries, get_or_entries}

-- the carriers fit into what an entry has for them
abbrev pub CarriersFit : Bool → Position → Type 0
CarriersFit v p = v ≡ false → (z : ℕ) → carrier_of (at p z) ≤ 255

-- what stands at each place of an entry: the ends, the carrier's two bytes in version 2, its one in version 1, the heading
module _ (t : Track) (p : Position) (z : ℕ) where
  pub a_byte : (v : Bool) → entry_byte v t p z 0 ≡ start t (2 * z)
  unfolding entry_byte
  a_byte v = refl

  pub b_byte : (v : Bool) → entry_byte v t p z 1 ≡ start t (2 * z + 1)
  unfolding entry_byte
  b_byte v = refl

  pub high_byte_lem : entry_byte true t p z 2 ≡ high_byte (carrier_of (at p z))
  unfolding entry_byte stride
  high_byte_lem = refl

  pub low_byte_lem : entry_byte true t p z 3 ≡ low_byte (carrier_of (at p z))
  unfolding entry_byte stride
  low_byte_lem = refl

  pub one_byte : entry_byte false t p z 2 ≡ low_byte (carrier_of (at p z))
  unfolding entry_byte stride
  one_byte = refl

  pub heading_byte : (v : Bool) → entry_byte v t p z (heading_place v) ≡ heading_of (at p z)
  unfolding entry_byte stride
  heading_byte true = refl
  heading_byte false = refl

module _ (v : Bool) (t : Track) (p : Position) where
  pub length_entry : (z : ℕ) → length (entry_bytes v t p z) ≡ stride v
  unfolding entry_bytes
  length_entry z = length-map (numbers_below (stride v)) (entry_byte v t p z) ∙ length_below (stride v)

  length_all : length (flatten (map (entry_bytes v t p) (numbers_below t.zones))) ≡ stride v * t.zones
  length_all = length_entries (entry_bytes v t p) (stride v) length_entry (numbers_below t.zones) ∙ ap (λ (n : ℕ). stride v * n) (length_below t.zones)

  pub length_board : length (board_bytes v t p) ≡ entry_from v t.zones
  unfolding board_bytes head_bytes
  length_board = omega (arith, length_all)

  pub version_is : version_said (board_bytes v t p) ≡ cond v 2 1
  unfolding board_bytes head_bytes
  version_is = refl

  pub wide_is : wide (board_bytes v t p) ≡ v
  wide_is = ap (λ (n : ℕ). eqb n 2) version_is ∙ go v
    where
      go : (v : Bool) → eqb (cond v 2 1) 2 ≡ v
      go true = refl
      go false = refl

  pub zones_is : zones_said (board_bytes v t p) ≡ t.zones
  unfolding board_bytes head_bytes
  zones_is = refl

  pub from_is : (z : ℕ) → zone_from (board_bytes v t p) z ≡ entry_from v z
  from_is z = ap (λ (w : Bool). entry_from w z) wide_is

  -- the byte at a place of a zone's entry
  pub at_place : (z k : ℕ) → z < t.zones → k < stride v → byte (board_bytes v t p) (entry_from v z + k) ≡ entry_byte v t p z k
  unfolding board_bytes head_bytes entry_bytes
  at_place z k inside small =
      ap (byte (board_bytes v t p)) (let q : entry_from v z + k ≡ 6 + (stride v * z + k) = omega arith in q) ∙
      get_or-append-add (head_bytes v t.points t.home t.zones) (flatten (map (entry_bytes v t p) (numbers_below t.zones))) (stride v * z + k) 0 ∙
      get_or_entries (entry_bytes v t p) (stride v) length_entry (numbers_below t.zones) z k (omega (arith, length_below t.zones)) small ∙
      ap (λ (y : ℕ). get_or (entry_bytes v t p y) k 0) (get_or_below t.zones z 0 inside) ∙
      get_or_map_below (entry_byte v t p z) (stride v) k 0 small

  -- the same from where the reader looks
  place_read : (z k : ℕ) → z < t.zones → k < stride v → byte (board_bytes v t p) (zone_from (board_bytes v t p) z + k) ≡ entry_byte v t p z k
  place_read z k inside small = ap (λ (n : ℕ). byte (board_bytes v t p) (n + k)) (from_is z) ∙ at_place z k inside small

  module _ (z : ℕ) (inside : z < t.zones) where
    pub a_read : end_a (board_bytes v t p) z ≡ start t (2 * z)
    a_read = place_read z 0 inside (omega (arith, stride_least v)) ∙ a_byte t p z v

    pub b_read : end_b (board_bytes v t p) z ≡ start t (2 * z + 1)
    b_read = place_read z 1 inside (omega (arith, stride_least v)) ∙ b_byte t p z v

    pub heading_read : heading_in (board_bytes v t p) z ≡ heading_of (at p z)
    heading_read =
        ap (λ (w : Bool). byte (board_bytes v t p) (zone_from (board_bytes v t p) z + heading_place w)) wide_is ∙
        place_read z (heading_place v) inside (omega (arith, stride_least v)) ∙
        heading_byte t p z v

    pub carrier_read : CarriersFit v p → carrier_in (board_bytes v t p) z ≡ carrier_of (at p z)
    carrier_read fits = go v refl
      where
        -- the two bytes of the carrier, or its one
        go : (w : Bool) → v ≡ w → carrier_in (board_bytes v t p) z ≡ carrier_of (at p z)
        go true e =
            carrier_wide (board_bytes v t p) z (wide_is ∙ e) ∙
            ap₂ (λ (x y : ℕ). 256 * x + y)
            (place_read z 2 inside (omega (arith, stride_least v)) ∙ ap (λ (w : Bool). entry_byte w t p z 2) e ∙ high_byte_lem t p z)
            (ap (byte (board_bytes v t p)) (let q : zone_from (board_bytes v t p) z + 2 + 1 ≡ zone_from (board_bytes v t p) z + 3 = omega arith in q)
            ∙ place_read z 3 inside (omega (arith, stride_least v)) ∙ ap (λ (w : Bool). entry_byte w t p z 3) e ∙ low_byte_lem t p z) ∙
            omega arith
        go false e =
            carrier_narrow (board_bytes v t p) z (wide_is ∙ e) ∙
            place_read z 2 inside (omega (arith, stride_least v)) ∙ ap (λ (w : Bool). entry_byte w t p z 2) e ∙ one_byte t p z ∙ omega (arith, fits e z)

  -- a word starts at end A of its zone, or at end B
  end_read : (w : ℕ) → w < 2 * t.zones → end_said (board_bytes v t p) w ≡ start t w
  end_read w below = go (heading_cases (board_bytes v t p) w)
    where
      inside : zone_of w < t.zones
      inside = zone_below t.zones w below

      go : (heading_of w ≡ 0) ⊎ (heading_of w ≡ 1) → end_said (board_bytes v t p) w ≡ start t w
      go (inl e) = said_a (board_bytes v t p) w e ∙ a_read (zone_of w) inside ∙ ap (start t) (let q : 2 * zone_of w ≡ w = omega arith in q)
      go (inr e) = said_b (board_bytes v t p) w e ∙ b_read (zone_of w) inside ∙ ap (start t) (let q : 2 * zone_of w + 1 ≡ w = omega arith in q)

  pub track_read : length t.ends ≡ 2 * t.zones → track_said (board_bytes v t p) ≡ t
  unfolding track_said board_bytes head_bytes
  track_read ends_count = λ i. record { points = t.points; home = t.home; zones = t.zones; ends = ends_read i }
    where
      as_long : length (map (end_said (board_bytes v t p)) (numbers_below (2 * t.zones))) ≡ 2 * t.zones
      as_long = length-map (numbers_below (2 * t.zones)) (end_said (board_bytes v t p)) ∙ length_below (2 * t.zones)

      ends_read : map (end_said (board_bytes v t p)) (numbers_below (2 * t.zones)) ≡ t.ends
      ends_read =
          ext_get_or 0 (map (end_said (board_bytes v t p)) (numbers_below (2 * t.zones))) t.ends (as_long ∙ sym ends_count)
          (λ w h. let below : w < 2 * t.zones = subst (λ (n : ℕ). w < n) as_long h in get_or_map_below (end_said (board_bytes v t p)) (2 * t.zones) w 0 below ∙ end_read w below)

  pub position_read : length p ≡ t.zones → CarriersFit v p → position_said (board_bytes v t p) ≡ p
  position_read each fits =
      ext_get_or 0 (position_said (board_bytes v t p)) p (as_long ∙ sym each)
      (λ z h.
      let inside : z < t.zones = subst (λ (n : ℕ). z < n) as_long h in
      at_said (board_bytes v t p) z (subst (λ (n : ℕ). z < n) (sym zones_is) inside) ∙
      ap₂ (λ (c h : ℕ). 2 * c + h) (carrier_read z inside fits) (heading_read z inside) ∙
      omega arith)
    where
      as_long : length (position_said (board_bytes v t p)) ≡ t.zones
      as_long = length_position (board_bytes v t p) ∙ zones_is

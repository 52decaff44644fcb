-- The board in bytes, in version 1 or 2: the refusals 1 to 9 in rising order, or a track with a first position. Versions differ in where the
-- bytes of a zone are and in how many a carrier has (Layout.antt); what is read of them is one form, and nothing else that is read speaks of a
-- version.
use Rattle.std.specs.Prelude.{ℕ, ◌+◌, ◌*◌, ◌/◌, ◌%◌, ◌<◌, List, map, ◌≡◌, Bool, true, cond, not, ◌&&◌, ◌||◌, length, get_or, leb, ltb, eqb}
use Rattle.model.specs.Lists.{numbers_below, any_of, all_of, how_many}
use Rattle.model.specs.Layout.{length_of, entry_from, end_place, carrier_place, heading_place}
use Rattle.model.specs.Track.{Track}
use Rattle.model.specs.Position.{Position}
use Rattle.model.specs.Labels.{label, parts}

module _ (b : List ℕ) where
  abbrev pub byte : ℕ → ℕ
  byte i = get_or b i 0

  -- every number of the list is a byte
  abbrev pub Bytes : Type 0
  Bytes = (i : ℕ) → byte i < 256

  -- two bytes from a place on, big-endian
  abbrev pub two_bytes : ℕ → ℕ
  two_bytes i = 256 * byte i + byte (i + 1)

  -- bytes 0 and 1: L, the number of bytes after them
  abbrev pub length_said : ℕ
  length_said = two_bytes 0

  abbrev pub version_said : ℕ
  version_said = byte 2

  abbrev pub points_said : ℕ
  points_said = byte 3

  abbrev pub home_said : ℕ
  home_said = byte 4

  abbrev pub zones_said : ℕ
  zones_said = byte 5

  -- a carrier has two bytes in version 2, one in version 1
  abbrev pub wide : Bool
  wide = eqb version_said 2

  -- where the bytes of a zone begin
  abbrev pub zone_from : ℕ → ℕ
  zone_from z = entry_from wide z

  abbrev pub end_a : ℕ → ℕ
  end_a z = byte (zone_from z + end_place 0)

  abbrev pub end_b : ℕ → ℕ
  end_b z = byte (zone_from z + end_place 1)

  unfoldable pub carrier_in : ℕ → ℕ
  carrier_in z = cond wide (two_bytes (zone_from z + carrier_place)) (byte (zone_from z + carrier_place))

  abbrev pub heading_in : ℕ → ℕ
  heading_in z = byte (zone_from z + heading_place wide)

  -- the point where the word w starts
  abbrev pub end_said : ℕ → ℕ
  end_said w = byte (zone_from (w / 2) + end_place (w % 2))

  -- the track and the first position that the bytes say
  unfoldable pub track_said : Track
  track_said = record {
    points = points_said;
    home = home_said;
    zones = zones_said;
    ends = map end_said (numbers_below (2 * zones_said));
  }

  unfoldable pub position_said : Position
  position_said = map (λ z. 2 * carrier_in z + heading_in z) (numbers_below zones_said)

  -- row 1: under 6 bytes
  unfoldable pub too_short : Bool
  too_short = ltb (length b) 6

  -- row 2: L isn't the count of bytes after it
  unfoldable pub wrong_length : Bool
  wrong_length = not (eqb (length_said + 2) (length b))

  -- row 3: version is neither 1 nor 2
  unfoldable pub wrong_version : Bool
  wrong_version = not (eqb version_said 1 || wide)

  -- row 4: P, home or Z out of range
  unfoldable pub out_of_range : Bool
  out_of_range = not (leb 2 points_said && (leb points_said 64 && (ltb home_said points_said && (leb 2 zones_said && leb zones_said 96))))

  -- row 5: L isn't 4 + 4 × Z in version 1, 4 + 5 × Z in version 2
  unfoldable pub wrong_count : Bool
  wrong_count = not (eqb length_said (length_of wide zones_said))

  -- what rows 2 and 5 leave: as many bytes as the head and the entries have
  abbrev pub Whole : Type 0
  Whole = length b ≡ zone_from zones_said

  -- row 6, of one zone: an end not below P, heading over 1, or a free zone with heading 1. Equal ends are allowed.
  unfoldable pub bad_zone : ℕ → Bool
  bad_zone z =
      not (ltb (end_a z) points_said) ||
      (not (ltb (end_b z) points_said) ||
      (not (leb (heading_in z) 1) ||
      (eqb (carrier_in z) 0 && eqb (heading_in z) 1)))

  -- row 7, of one zone: its carrier stands in an earlier zone too
  unfoldable pub repeated : ℕ → Bool
  repeated z = not (eqb (carrier_in z) 0) && any_of (λ y. eqb (carrier_in y) (carrier_in z)) (numbers_below z)

  -- rows 6 and 7 at once, where none before them holds
  unfoldable pub zone_refusal : ℕ
  zone_refusal = cond (any_of bad_zone (numbers_below zones_said)) 6 (cond (any_of repeated (numbers_below zones_said)) 7 0)

  -- row 8, of one point: another than home, and under two zones. A zone counts once for each of its ends at the point, so a turning loop twice.
  unfoldable pub under_two : ℕ → Bool
  under_two p = not (eqb p home_said) && ltb (how_many (eqb p) track_said.ends) 2

  -- row 9: points that don't hang together
  unfoldable pub apart : Bool
  apart =
      let ls = parts track_said (λ z. true) in
      not (all_of (λ p. eqb (label ls p) (label ls home_said)) (numbers_below points_said))

  -- the number of the first row that holds, 0 where none does
  unfoldable pub refusal : ℕ
  refusal =
      cond too_short 1
      (cond wrong_length 2
      (cond wrong_version 3
      (cond out_of_range 4
      (cond wrong_count 5
      (cond (any_of bad_zone (numbers_below zones_said)) 6
      (cond (any_of repeated (numbers_below zones_said)) 7
      (cond (any_of under_two (numbers_below points_said)) 8
      (cond apart 9 0))))))))

-- Rows 1 to 9 of document 01's table, with requests c and i of document 02, in relations alone: what each says of a board's bytes, and that
-- `refusal` is the number of the first that holds. The tests in Reading.antt are right by this, and need not be believed.
use Rattle.std.specs.Prelude.{ℕ, ◌+◌, ◌*◌, ◌≤◌, ◌<◌, ◌≡◌, ◌↔◌, List, length}
use Rattle.model.specs.Track.{Track, Linked, start}
use Rattle.model.specs.Reading.{length_said, version_said, points_said, home_said, zones_said, end_a, end_b, carrier_in, heading_in, track_said, refusal}

-- the words of a track that start at point q; both of a turning loop do
pub record StartsAt (t : Track) (q w : ℕ) : Type 0 where
  pub small : w < 2 * t.zones
  pub starts : start t w ≡ q

-- row n of the table holds
pub data Row (b : List ℕ) : ℕ → Type 0 where
  -- under 6 bytes
  under_six : length b < 6 → Row b 1
  -- L isn't the count of bytes after it
  other_length : (length_said b + 2 ≡ length b → ⊥) → Row b 2
  -- version is neither 1 nor 2
  other_version : (version_said b ≡ 1 → ⊥) → (version_said b ≡ 2 → ⊥) → Row b 3
  -- P, home or Z out of range: P is 2 to 64, home below P, Z 2 to 96
  few_points : points_said b < 2 → Row b 4
  many_points : 64 < points_said b → Row b 4
  home_outside : points_said b ≤ home_said b → Row b 4
  few_zones : zones_said b < 2 → Row b 4
  many_zones : 96 < zones_said b → Row b 4
  -- L isn't 4 + 4 × Z in version 1, 4 + 5 × Z in version 2
  not_four_each : version_said b ≡ 1 → (length_said b ≡ 4 + 4 * zones_said b → ⊥) → Row b 5
  not_five_each : version_said b ≡ 2 → (length_said b ≡ 4 + 5 * zones_said b → ⊥) → Row b 5
  -- an end not below P, heading over 1, or a free zone with heading 1
  end_a_outside : (z : ℕ) → z < zones_said b → points_said b ≤ end_a b z → Row b 6
  end_b_outside : (z : ℕ) → z < zones_said b → points_said b ≤ end_b b z → Row b 6
  heading_over_1 : (z : ℕ) → z < zones_said b → 1 < heading_in b z → Row b 6
  free_with_1 : (z : ℕ) → z < zones_said b → carrier_in b z ≡ 0 → heading_in b z ≡ 1 → Row b 6
  -- a carrier in two zones
  in_two_zones : (y z : ℕ) → y < zones_said b → z < zones_said b → (y ≡ z → ⊥) → (carrier_in b z ≡ 0 → ⊥) → carrier_in b y ≡ carrier_in b z → Row b 7
  -- a point other than home with under two zones: no two words start there
  under_two_zones : (q : ℕ) → q < points_said b → (q ≡ home_said b → ⊥) → ((w v : ℕ) → StartsAt (track_said b) q w → StartsAt (track_said b) q v → w ≡ v) → Row b 8
  -- points that don't hang together
  not_linked : (p q : ℕ) → p < points_said b → q < points_said b → (Linked (track_said b) (λ z. Unit {0}) p q → ⊥) → Row b 9

-- row n holds, and none before it
pub record FirstRow (b : List ℕ) (n : ℕ) : Type 0 where
  pub holds : Row b n
  pub none_before : (m : ℕ) → m < n → Row b m → ⊥

-- the rows are tried in rising order, and the first that holds is given; 0 is given where none does, and nothing else
pub record FirstGiven (b : List ℕ) : Type 0 where
  pub accepted : (refusal b ≡ 0) ↔ ((n : ℕ) → Row b n → ⊥)
  pub refused : (n : ℕ) → 0 < n → (refusal b ≡ n) ↔ FirstRow b n
  pub most : refusal b ≤ 9

abbrev pub RefusalRight : Type 0
RefusalRight = (b : List ℕ) → FirstGiven b

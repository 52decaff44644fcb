-- Boards of either version as the definition reads them, by computation; in this crate, so that another reading is refused here.
use Prim.Native.Nat.{ℕ}
use mathlib.Core.List.{List, [], ◌∷◌}
use mathlib.Core.Path.{◌≡◌, refl}
use Rattle.model.specs.Labels.{parts, join_zones, join_points}
use Rattle.model.specs.Position.{Position}
use Rattle.model.specs.Layout.{stride}
use Rattle.model.specs.Reading.{track_said, position_said, carrier_in, refusal, too_short, wrong_length, wrong_version, out_of_range, wrong_count, bad_zone, repeated, under_two, apart}

-- what a board gives: its refusal, the ends of its zones and its position
pub record Read : Type 0 where
  pub number : ℕ
  pub ends : List ℕ
  pub position : Position

unfoldable read_of : List ℕ → Read
unfolding track_said position_said stride carrier_in refusal too_short wrong_length wrong_version out_of_range wrong_count bad_zone repeated under_two apart parts join_zones join_points
read_of b = record { number = refusal b; ends = (track_said b).ends; position = position_said b }

-- two zones between points 0 and 1, the second from 1 to 0; carriers 7 and 9, headings 0 and 1
in_version_1 : read_of (0 ∷ 12 ∷ 1 ∷ 2 ∷ 0 ∷ 2 ∷ 0 ∷ 1 ∷ 7 ∷ 0 ∷ 1 ∷ 0 ∷ 9 ∷ 1 ∷ []) ≡ record { number = 0; ends = 0 ∷ 1 ∷ 1 ∷ 0 ∷ []; position = 14 ∷ 19 ∷ [] }
unfolding read_of
in_version_1 = refl

-- the same zones in version 2; carriers 7 and 263
in_version_2 : read_of (0 ∷ 14 ∷ 2 ∷ 2 ∷ 0 ∷ 2 ∷ 0 ∷ 1 ∷ 0 ∷ 7 ∷ 0 ∷ 1 ∷ 0 ∷ 1 ∷ 7 ∷ 1 ∷ []) ≡ record { number = 0; ends = 0 ∷ 1 ∷ 1 ∷ 0 ∷ []; position = 14 ∷ 527 ∷ [] }
unfolding read_of
in_version_2 = refl

-- zone 1 is a turning loop at point 1: equal ends are allowed, and count as two of point 1's three
with_equal_ends : read_of (0 ∷ 12 ∷ 1 ∷ 2 ∷ 0 ∷ 2 ∷ 0 ∷ 1 ∷ 7 ∷ 0 ∷ 1 ∷ 1 ∷ 0 ∷ 0 ∷ []) ≡ record { number = 0; ends = 0 ∷ 1 ∷ 1 ∷ 1 ∷ []; position = 14 ∷ 0 ∷ [] }
unfolding read_of
with_equal_ends = refl

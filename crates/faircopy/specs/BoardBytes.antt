-- The bytes of a board over a track and a position, in either version: the head, then an entry for each zone. Nothing of them is taken from a
-- board's bytes; where each byte of an entry stands is said by the layout that the reader goes by.
use Rattle.std.specs.Prelude.{ℕ, ◌+◌, ◌*◌, Bool, cond, ◌&&◌, leb, eqb}
use mathlib.Core.List.{List, [], ◌∷◌, ◌++◌, map, flatten}
use Rattle.model.specs.Lists.{numbers_below, any_of}
use Rattle.model.specs.Track.{Track, heading_of, start}
use Rattle.model.specs.Position.{Position, at, carrier_of}
use Rattle.model.specs.Layout.{stride, length_of, end_place, carrier_place, heading_place, high_byte, low_byte}

-- L, the version, points, the home point and zones
unfoldable pub head_bytes : Bool → ℕ → ℕ → ℕ → List ℕ
head_bytes wide points home zones = high_byte (length_of wide zones) ∷ low_byte (length_of wide zones) ∷ cond wide 2 1 ∷ points ∷ home ∷ zones ∷ []

module _ (wide : Bool) (t : Track) (p : Position) where
  -- the byte at a place of zone z's entry: the ends, where the zone's two words start; the carrier, of which version 1 has the low byte alone; the
  -- heading
  unfoldable pub entry_byte : ℕ → ℕ → ℕ
  entry_byte z k =
      cond (eqb k (end_place 0)) (start t (2 * z))
      (cond (eqb k (end_place 1)) (start t (2 * z + 1))
      (cond (eqb k (heading_place wide)) (heading_of (at p z))
      (cond (wide && eqb k carrier_place) (high_byte (carrier_of (at p z))) (low_byte (carrier_of (at p z))))))

  unfoldable pub entry_bytes : ℕ → List ℕ
  entry_bytes z = map (entry_byte z) (numbers_below (stride wide))

  unfoldable pub board_bytes : List ℕ
  board_bytes = head_bytes wide t.points t.home t.zones ++ flatten (map entry_bytes (numbers_below t.zones))

-- some carrier doesn't fit one byte
unfoldable pub needs_two : Position → Bool
needs_two p = any_of (λ v. leb 256 (carrier_of v)) p

-- in version 1 where every carrier fits one byte, in version 2 else
abbrev pub copy_bytes : Track → Position → List ℕ
copy_bytes t p = board_bytes (needs_two p) t p

-- Where the bytes of a zone are: each lies inside a whole board, and a carrier is one byte or two by the version.
-- A zone more than z has room for the zone z.
use Prim.Native.Nat.{ℕ, suc, ◌+◌, ◌-◌, ◌*◌, ◌≤◌, ◌<◌}
use native.Mathlib.Omega.{arith}
use native.Mathlib.Nat.{add-zero, mul-suc, mul-le-mul_left}
use mathlib.Core.List.{List}
use mathlib.Core.Path.{◌≡◌, sym, ◌∙◌, ap, ap₂}
use mathlib.Core.Bool.{Bool, true, false}
use lib.ListN.{length}
use Rattle.model.specs.Layout.{stride}
use Rattle.model.specs.Reading.{byte, wide, zone_from, zones_said, end_a, heading_in}
use Rattle.model.proofs.ReadingLaws.{carrier_wide, carrier_narrow}
use Rattle.model.proofs.LayoutLaws.{five, four, stride_least}
use Rattle.board.specs.Inner.{ByteAt, ZoneIn, ZoneAt}

module _ {b : List ℕ} {w : Bool} {z : ℕ} (I : ZoneIn b w z) where
  stride_is : stride w ≡ stride (wide b)
  stride_is = ap stride I.version

  module _ {f : ℕ} (F : f ≡ stride w * z + 6) where
    -- the zone's bytes lie inside the board
    zone_fits : f + stride w ≤ length b
    zone_fits =
        omega (
          arith,
          I.whole,
          ap (λ (n : ℕ). n * zones_said b) stride_is,
          mul-suc (stride w) z,
          mul-le-mul_left {m = suc z} {n = zones_said b} (stride w) (let i : z < zones_said b = I.inside in omega arith),
        )

    pub zone_room : f + 4 ≤ length b
    zone_room = omega (arith, zone_fits, stride_least w)

    pub wide_room : w ≡ true → f + 5 ≤ length b
    wide_room e = omega (arith, zone_fits, five e)

    -- what the bytes that were read say
    module _ {x y u v : ℕ} (A : ByteAt b f x) (B : ByteAt b (f + 1) y) (C : ByteAt b (f + 2) u) (D : ByteAt b (f + 3) v) where
      from_is : f ≡ zone_from b z
      from_is = F ∙ ap (λ (n : ℕ). n * z + 6) stride_is

      at_from : (i : ℕ) → byte b (f + i) ≡ byte b (zone_from b z + i)
      at_from i = ap (λ (n : ℕ). byte b (n + i)) from_is

      at_first : x ≡ end_a b z
      at_first = A.is ∙ ap (byte b) (from_is ∙ sym (add-zero (zone_from b z)))

      at_last : (i : ℕ) → i + 1 ≡ stride w → byte b (f + i) ≡ heading_in b z
      at_last i q = at_from i ∙ ap (λ (n : ℕ). byte b (zone_from b z + n)) (let k = stride_is in let d : i ≡ stride (wide b) - 1 = omega arith in d)

      pub zone_narrow : w ≡ false → ZoneAt b z (record { a = x; b = y; carrier = u; heading = v })
      zone_narrow e = record {
        a_is = at_first;
        b_is = B.is ∙ at_from 1;
        carrier_is = C.is ∙ at_from 2 ∙ sym (carrier_narrow b z (sym I.version ∙ e));
        heading_is = D.is ∙ at_last 3 (four e);
        carrier_small = omega (arith, C.small);
        heading_small = D.small;
      }

      pub zone_wide : w ≡ true → {h : ℕ} → ByteAt b (f + 4) h → ZoneAt b z (record { a = x; b = y; carrier = 256 * u + v; heading = h })
      zone_wide e H = record {
        a_is = at_first;
        b_is = B.is ∙ at_from 1;
        carrier_is =
            ap₂ (λ (m n : ℕ). 256 * m + n) (C.is ∙ at_from 2) (D.is ∙ at_from 3 ∙ ap (byte b) (let d : zone_from b z + 3 ≡ zone_from b z + 2 + 1 = omega arith in d)) ∙
            sym (carrier_wide b z (sym I.version ∙ e));
        heading_is = H.is ∙ at_last 4 (five e);
        carrier_small = omega (arith, C.small, D.small);
        heading_small = H.small;
      }

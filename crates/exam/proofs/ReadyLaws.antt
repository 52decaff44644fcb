-- What holds of a position that is ready: at most one carrier a zone, so at most 96, and those out in a position within it can be listed.
-- Each carrier out stands in a zone of its own, and zones and numbers are bounded.
use Prim.Native.Nat.{ℕ, ◌+◌, ◌*◌, ◌≤◌}
use mathlib.Core.List.{List}
use mathlib.Core.Path.{◌≡◌}
use mathlib.Core.Logic.{⊎_elim}
use native.Mathlib.Omega.{arith}
use native.Mathlib.Nat.{le_trans, mul-le-mul_left, mul-le-mul_right}
use lib.ListN.{length}
use Rattle.model.specs.Track.{Track}
use Rattle.model.specs.Position.{Position, at, outs}
use Rattle.model.proofs.PositionLaws.{outs_most}
use Rattle.order.proofs.Within.{Within}
use Rattle.carriers.specs.Listing.{Listable}
use Rattle.model.specs.Accepted.{Ready}

module _ {t : Track} {p : Position} (ready : Ready t p) where
  pub few_out : length (outs p) ≤ 96
  few_out = omega (arith, outs_most p, ready.bounded.laid.each, ready.bounded.zones_most)

  -- the room that row 10 asks for is a small number
  pub room_small : {out : ℕ} → out ≡ length (outs p) → out * (2 + 2 * t.zones) ≤ 18624
  room_small {out} counted =
      le_trans (mul-le-mul_right {m = out} {n = 96} (2 + 2 * t.zones) (omega (arith, few_out)))
      (mul-le-mul_left {m = 2 + 2 * t.zones} {n = 194} 96 (omega (arith, ready.bounded.zones_most)))

  pub listable : {q : Position} {list : List ℕ} → Within q p → length (outs q) ≤ length list → Listable q list
  listable {q} within room =
      record {
        zones_most = omega (arith, within.as_long, ready.bounded.laid.each, ready.bounded.zones_most);
        limited = λ z. ⊎_elim (λ e. omega (arith, ready.limited z)) (λ e. let f : at q z ≡ 0 = e in omega arith) (within.kept z);
        room = room;
      }

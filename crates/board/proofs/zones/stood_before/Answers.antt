-- `stood_before` tells whether one of the zones before z has the carrier.
-- The chain tries each of them by its carrier.
use native.Mathlib.Omega.{arith}
use Prim.Native.Nat.{ℕ}
use mathlib.Core.Path.{refl, ◌∙◌}
use lib.Dec.{eqb}
use Rattle.model.specs.Reading.{carrier_in}
use Rattle.std.proofs.lemmas.Iterator.{YieldsList-from_range}
use Rattle.std.proofs.lemmas.Iterator.Search.{any_from_yields_List}
use Rattle.std.proofs.Common.{rules, tests}
use Rattle.board.proofs.Repeats.{stood_any}
use Rattle.board.proofs.zones.stood_before.Goals as goal

pub returns : goal.returns
returns c =
    any_from_yields_List (λ (y : ℕ). eqb (carrier_in c.args.entries.now.bytes.now y) c.args.carrier) _ _ _ c.any.ensures.ran
    (YieldsList-from_range 0 c.args.z c.args.z refl (omega arith)) (λ x b q k. search (rules, tests)) ∙
    stood_any _ _ _

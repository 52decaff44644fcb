-- `reach::grow` meets its contract: what is grown where nothing was grown from is what is reached.
-- Nothing is in the set that it starts with, and its count is 0.
use Prim.Native.Nat.{ℕ}
use mathlib.Core.Path.{ap, ◌∙◌}
use native.Mathlib.Omega.{arith}
use Rattle.bits.specs.Sets.{has_bit}
use Rattle.bits.proofs.BitLaws.{bit_none}
use Rattle.reach.proofs.grow.Goals as goal

pub grow_once-growth-requires : goal.grow_once-growth-requires
grow_once-growth-requires c =
    let none = c.nothing.ensures in
    (c.requires.0, c.requires.1, λ q k. ap (λ (x : ℕ). has_bit x q) none.0 ∙ bit_none q, omega (arith, none.1))

pub returns : goal.returns
returns c = c.grow_once-growth.ensures.all

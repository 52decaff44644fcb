-- `parts::count_starts` meets its contract: it counts the free zones by the point at their end A.
-- The invariant: the counts are those of the zones below z (laws of StartLaws).
use Prim.Native.Nat.{◌*◌}
use native.Mathlib.Omega.{arith}
use borrow.Author.Tests.{eq-eqb, ne_eqb}
use Rattle.model.specs.Position.{at}
use Rattle.parts.proofs.StartLaws.{starts_none, starts_held, starts_free, starts_most}
use Rattle.parts.proofs.count_starts.Goals as goal
use Rattle.parts.proofs.count_starts.Goals.{then-free, else-free}

pub loop-z-init : goal.loop-z-init
loop-z-init c = rw c.requires.1 (starts_none _ _)

pub overflow_add-counts : goal.overflow_add-counts
overflow_add-counts c =
    omega (arith, starts_most c.loop-z.invariant (c.requires.0.inside (2 * c.loop-z.z) (omega arith)), c.well_formed)

pub loop-z-preserved : goal.loop-z-preserved
loop-z-preserved c =
    let z = c.loop-z.z in
    let p = c.args.position.now in
    elim c.if-free.branch [
      | then-free k ↦ rw k.counts-is (starts_free c.loop-z.invariant (eq-eqb (at p z) 0 k.if-free.true) (c.requires.0.inside (2 * z) (omega arith)))
      | else-free k ↦ rw k.counts-is (starts_held c.loop-z.invariant (ne_eqb (at p z) 0 k.if-free.false))
    ]

-- `parts::add_ways` meets its contract: the ways are those over all words that a set goes on over.
-- The invariant: the ways are those over such words below w (laws of WordWays).
use mathlib.Core.Path.{sym, ◌∙◌}
use native.Mathlib.Omega.{arith}
use Rattle.parts.proofs.WordWays.{over_none, over_added, over_skip}
use Rattle.parts.proofs.add_ways.Goals as goal
use Rattle.parts.proofs.add_ways.Goals.{then-goes_on, else-goes_on}

pub loop-w-init : goal.loop-w-init
loop-w-init c = rw c.requires.1 (over_none c.args.ends.now _)

pub loop-w-preserved : goal.loop-w-preserved
loop-w-preserved c =
    let w = c.loop-w.w in
    elim c.if-goes_on.branch [
      | then-goes_on k ↦ over_added c.args.ends.now _ w _ c.loop-w.invariant (sym c.goes_on.ensures ∙ k.if-goes_on.true) (c.requires.0.inside w (omega (arith, c.requires.0.ends_count, c.loop-w-test.true))) k.leaving.ensures (k.ways-is ∙ k.add_way.ensures)
      | else-goes_on k ↦ rw k.ways-is (over_skip c.args.ends.now _ w _ c.loop-w.invariant (sym c.goes_on.ensures ∙ k.if-goes_on.false))
    ]

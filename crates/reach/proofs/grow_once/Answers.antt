-- `reach::grow_once` meets its contract: it finds the points that are reached from one, puts them into the set, and counts as many steps.
-- The invariant is Growing (laws of GrowLaws): a fresh point was not grown from, as the step asks. The measure: points not grown from.
use native.Mathlib.Omega.{arith}
use Rattle.reach.proofs.GrowLaws.{begins, turns, fewer, ends, step_found, step_new, step_room}
use Rattle.reach.proofs.WayLaws.{reach_inside}
use Rattle.reach.proofs.grow_once.Goals as goal

pub fresh-fresh-requires : goal.fresh-fresh-requires
fresh-fresh-requires c = tt

pub loop-fresh-init : goal.loop-fresh-init
loop-fresh-init c =
    rw (c.fresh-fresh.ensures, c.with-found.ensures) (begins (omega (arith, c.requires.0, c.requires.1.few)) (omega (arith, c.well_formed)) c.requires.2)

pub step-stepped-requires : goal.step-stepped-requires
step-stepped-requires c =
    let g = c.loop-fresh.invariant in
    let low = c.lowest-p.ensures in (
      omega (arith, c.requires.0, reach_inside c.requires.1 c.requires.0 (g.sound _ (step_found g low))),
      omega (arith, c.requires.0, c.requires.1.few, low.inside),
      step_new g low,
      step_room g low c.requires.3,
    )

pub fresh-fresh-requires-in-loop-fresh : goal.fresh-fresh-requires-in-loop-fresh
fresh-fresh-requires-in-loop-fresh c = tt

pub loop-fresh-smaller : goal.loop-fresh-smaller
loop-fresh-smaller c =
    fewer c.loop-fresh.invariant c.lowest-p.ensures c.step-stepped.result.after c.step-stepped.ensures.1

pub loop-fresh-preserved : goal.loop-fresh-preserved
loop-fresh-preserved c =
    let fits = (c.type_inv.ways c.lowest-p.result).fits in
    let step = c.step-stepped.ensures in
    rw (c.fresh-fresh-in-loop-fresh.ensures, step.0) (turns c.loop-fresh.invariant c.lowest-p.ensures c.step-stepped.result.after step.1 c.requires.2 fits step.2)

pub returns : goal.returns
returns c =
    ends c.loop-fresh.invariant c.loop-fresh-test.false c.requires.2 (omega (arith, c.well_formed))

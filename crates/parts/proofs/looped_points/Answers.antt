-- `parts::looped_points` meets its contract. The invariant: what is grown from is made of whole parts, in as many steps as points, and of its points
-- those of parts with a loop are marked (laws of PartByPart). The measure is how many points are not grown from.
-- Each turn grows the part of the lowest point not grown from; the sum of its counts is how many free zones start in it (laws of StartLaws).
use native.Mathlib.Omega.{arith}
use lib.Count.{ones-le}
use Rattle.parts.proofs.WordWays.{over_all, over_ways, among_each}
use Rattle.parts.proofs.StartLaws.{count_in_lem, count_in_most}
use Rattle.parts.proofs.PartByPart.{looping_none, looping_untouched, looping_marks, looping_passes, looping_fewer, looping_all, looping_once}
use Rattle.parts.proofs.looped_points.Goals as goal
use Rattle.parts.proofs.looped_points.Goals.{then-size-zones_in, else-size-zones_in}

pub loop-rest-init : goal.loop-rest-init
loop-rest-init c =
    let none = c.nothing-grown.ensures in
    rw (c.fresh-rest.ensures, c.all-all.ensures) (looping_none none.0 none.1)

pub grow_once-growth-requires : goal.grow_once-growth-requires
grow_once-growth-requires c =
    let inv = c.loop-rest.invariant in (
      omega (arith, c.lowest-first.ensures.inside, c.add_ways.ensures.long),
      over_ways c.requires (over_all c.requires c.add_ways.ensures),
      looping_untouched c.requires.few inv c.lowest-first.ensures,
      omega (arith, inv.count, ones-le 64 c.loop-rest.grown.set inv.set_word),
    )

pub zones_in-requires : goal.zones_in-requires
zones_in-requires c =
    (c.count_starts.ensures.long, omega (arith, count_in_most (among_each c.requires) c.count_starts.ensures c.grow_once-growth.result.found, c.well_formed))

pub loop-rest-smaller : goal.loop-rest-smaller
loop-rest-smaller c = looping_fewer c.requires.few c.loop-rest.invariant c.lowest-first.ensures c.grow_once-growth.ensures

pub loop-rest-preserved : goal.loop-rest-preserved
loop-rest-preserved c =
    let among = c.requires in
    let inv = c.loop-rest.invariant in
    let low = c.lowest-first.ensures in
    let over = over_all among c.add_ways.ensures in
    let starts = rw among.each at c.count_starts.ensures in
    let sum = count_in_lem among starts c.grow_once-growth.result.found in
    rw (c.fresh-rest-in-loop-rest.ensures, c.all-all.ensures)
    (elim c.if-size-zones_in.branch [
      | then-size-zones_in k ↦ rw k.looped-is
          (looping_marks among.few inv low c.grow_once-growth.ensures among over (omega (arith, c.size.ensures, c.zones_in.ensures, sum, k.if-size-zones_in.true)))
      | else-size-zones_in k ↦ rw k.looped-is
          (looping_passes among.few inv low c.grow_once-growth.ensures among over (omega (arith, c.size.ensures, c.zones_in.ensures, sum, k.if-size-zones_in.false)))
    ])

pub returns : goal.returns
returns c =
    let inv = c.loop-rest.invariant in
    (looping_all c.requires.few inv c.loop-rest-test.false, looping_once c.requires.few inv c.loop-rest-test.false)

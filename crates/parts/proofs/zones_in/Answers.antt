-- `parts::zones_in` meets its contract: it gives the sum of the counts of the part's points.
-- The invariant: n and the sum of the counts of `rest` make the whole sum (laws of StartLaws). The measure is the count of bits of `rest`.
use native.Mathlib.Omega.{arith}
use Rattle.parts.proofs.StartLaws.{adding_most, adding_more, adding_fewer, adding_done}
use Rattle.parts.proofs.zones_in.Goals as goal

pub overflow_add-n : goal.overflow_add-n
overflow_add-n c = omega (arith, adding_most c.loop-rest.invariant c.lowest.ensures, c.requires.1)

pub loop-rest-smaller : goal.loop-rest-smaller
loop-rest-smaller c =
    let low = c.lowest.ensures in
    rw (c.but_lowest-rest.ensures.rest c.lowest.result low) (adding_fewer c.loop-rest.invariant low)

pub loop-rest-preserved : goal.loop-rest-preserved
loop-rest-preserved c =
    let low = c.lowest.ensures in
    rw (c.but_lowest-rest.ensures.rest c.lowest.result low) (adding_more c.loop-rest.invariant low)

pub returns : goal.returns
returns c = adding_done c.loop-rest.invariant c.loop-rest-test.false

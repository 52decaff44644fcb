-- `Writing::put_carriers` meets its contract: each carrier is put after a space.
-- The invariant: what is left to write is the carriers from here on, each after a space (SpacedPut).
use Rattle.page.proofs.PutLaws.{room_left, ◌then◌}
use Rattle.page.proofs.SpacedPut.{spacing_ends, spacing_goes}
use Rattle.page.proofs.writing.Writing.put_carriers.Goals as goal

pub put_text-requires : goal.put_text-requires
put_text-requires c = room_left (spacing_goes _ _ c.loop-carrier.invariant c.loop-carrier-test.true)

pub put_decimal-requires : goal.put_decimal-requires
put_decimal-requires c = room_left (spacing_goes _ _ c.loop-carrier.invariant c.loop-carrier-test.true then c.put_text.ensures)

pub loop-carrier-preserved : goal.loop-carrier-preserved
loop-carrier-preserved c =
    spacing_goes _ _ c.loop-carrier.invariant c.loop-carrier-test.true then c.put_text.ensures then c.put_decimal.ensures

pub returns : goal.returns
returns c = spacing_ends _ _ c.loop-carrier.invariant c.loop-carrier-test.false

-- `Writing::put_carriers` meets its contract: each carrier is put after a space.
-- The invariant: what is left to write is the carriers from here on, each after a space (SpacedPut).
use Rattle.page.specs.Page.{decimal}
use Rattle.page.proofs.SpacedPut.{Spacing}
use Rattle.page.proofs.writing.Writing.put_carriers.Given as goal

abbrev pub invariant-loop-carrier : goal.invariant-loop-carrier
invariant-loop-carrier l = Spacing decimal l.list l.initial.self l.carrier-index l.self

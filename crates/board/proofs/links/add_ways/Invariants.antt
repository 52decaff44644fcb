-- `add_ways` adds the ways of all words, and gives the points where two or more start.
-- The invariant: both are done for the words of the first z zones.
use Prim.Native.Nat.{◌*◌}
use Rattle.board.specs.Inner.{WaysOf}
use Rattle.board.proofs.Doubling.{StartsTwice}
use Rattle.board.proofs.links.add_ways.Given as goal

abbrev pub invariant-loop-z : goal.invariant-loop-z
invariant-loop-z l = WaysOf l.bytes l.ways (2 * l.z) × StartsTwice l.bytes l.once l.twice (2 * l.z)

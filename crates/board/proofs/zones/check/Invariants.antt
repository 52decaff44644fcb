-- `check` gives rows 6 and 7: the first of them that holds.
-- The invariant: no zone before z is bad, the table has the low bytes of their carriers, and it is known whether one of them stood before.
use mathlib.Core.Path.{◌≡◌}
use Rattle.model.specs.Lists.{any_of, numbers_below}
use Rattle.model.specs.Reading.{bad_zone, repeated as Reading·repeated}
use Rattle.board.proofs.Turns.{NoneBelow}
use Rattle.board.proofs.Repeats.{Seen}
use Rattle.board.proofs.zones.check.Given as goal

abbrev pub invariant-loop-z : goal.invariant-loop-z
invariant-loop-z l = NoneBelow (bad_zone l.bytes) l.z × Seen l.bytes l.seen l.z × (l.repeated ≡ any_of (Reading·repeated l.bytes) (numbers_below l.z))

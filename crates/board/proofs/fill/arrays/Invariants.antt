-- `arrays` fills the track's list of ends and the position, each made long enough by zeros.
-- The invariant: the first 2 × z ends and the first z places of the position are filled.
use Prim.Native.Nat.{◌*◌}
use mathlib.Core.Path.{◌≡◌}
use Rattle.model.specs.Reading.{end_said}
use Rattle.board.proofs.Filling.{filled, held_said}
use Rattle.board.proofs.fill.arrays.Given as goal

abbrev pub invariant-loop-z : goal.invariant-loop-z
invariant-loop-z l = (l.ends ≡ filled 192 (end_said l.bytes) (2 * l.z)) × (l.position ≡ filled 96 (held_said l.bytes) l.z)

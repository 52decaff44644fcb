-- `parts::looped_points` meets its contract. The invariant: what is grown from is made of whole parts, in as many steps as points, and of its points
-- those of parts with a loop are marked (laws of PartByPart). The measure is how many points are not grown from.
-- Each turn grows the part of the lowest point not grown from; the sum of its counts is how many free zones start in it (laws of StartLaws).
use Prim.Native.Nat.{◌-◌}
use lib.Count.{ones}
use Rattle.model.specs.Track.{track_in}
use Rattle.parts.proofs.PartByPart.{Looping}
use Rattle.parts.proofs.looped_points.Given as goal

abbrev pub invariant-loop-rest : goal.invariant-loop-rest
invariant-loop-rest l = Looping (track_in l.fn.track) l.position l.ways l.looped l.rest l.grown

abbrev pub decreases-loop-rest : goal.decreases-loop-rest
decreases-loop-rest l = 64 - ones l.grown.set

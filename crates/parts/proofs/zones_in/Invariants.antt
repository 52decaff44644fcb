-- `parts::zones_in` meets its contract: it gives the sum of the counts of the part's points.
-- The invariant: n and the sum of the counts of `rest` make the whole sum (laws of StartLaws). The measure is the count of bits of `rest`.
use lib.Count.{ones}
use Rattle.parts.proofs.StartLaws.{Adding}
use Rattle.parts.proofs.zones_in.Given as goal

abbrev pub invariant-loop-rest : goal.invariant-loop-rest
invariant-loop-rest l = Adding l.counts l.part l.n l.rest

abbrev pub decreases-loop-rest : goal.decreases-loop-rest
decreases-loop-rest l = ones l.rest

-- `parts::add_ways` meets its contract: the ways are those over all words that a set goes on over.
-- The invariant: the ways are those over such words below w (laws of WordWays).
use Rattle.parts.specs.Ways.{goes_over, WaysOn}
use Rattle.parts.proofs.add_ways.Given as goal

abbrev pub invariant-loop-w : goal.invariant-loop-w
invariant-loop-w l = WaysOn l.ends (goes_over l.ends l.position l.looped) l.w l.ways

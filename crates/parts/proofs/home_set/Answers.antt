-- `parts::home_set` meets its contract: what is grown from home over the ways of joining and merging is home's set.
-- The contracts of what it calls say what the ways are and that `grow` gives what is reached; that is home's set by `grown_home`.
use Rattle.parts.proofs.WordWays.{over_all, bounded_among}
use Rattle.parts.proofs.HomeReached.{grown_home}
use Rattle.parts.proofs.home_set.Goals as goal

pub returns : goal.returns
returns c =
    grown_home c.requires.laid c.looped_points-grown.ensures.0 (over_all (bounded_among c.requires) c.add_ways.ensures) c.grow.ensures

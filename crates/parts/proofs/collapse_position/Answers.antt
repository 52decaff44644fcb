-- `parts::collapse_position` meets its contract: the carriers that leave at a point of home's set are taken off.
-- From the contracts of `home_set` and `take_off`; that those left are the collapse's is `outs_left` of LeftCarriers.
use mathlib.Core.Path.{ap, ◌∙◌}
use Rattle.model.specs.Position.{outs}
use Rattle.parts.proofs.LeftCarriers.{outs_left}
use Rattle.parts.proofs.collapse_position.Goals as goal

pub returns : goal.returns
returns c =
    let found = c.home_set-set in
    record {
      set = found.result;
      home = found.ensures;
      rest = c.take_off.ensures;
      carriers = ap outs c.take_off.ensures ∙ outs_left c.requires.laid found.result found.ensures;
    }

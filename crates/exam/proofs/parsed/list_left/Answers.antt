-- `parsed::list_left` meets its contract: what the collapse leaves of the position is listed.
-- From the contracts of `collapse_position` and `list_out`; laws of CollapseLaws.
use Rattle.model.specs.Track.{track_in}
use Rattle.exam.proofs.CollapseLaws.{collapse_listable, collapse_position, collapse_given}
use Rattle.exam.proofs.parsed.list_left.Goals as goal

pub list_out-requires : goal.list_out-requires
list_out-requires c = collapse_listable _ c.collapse_position.ensures c.requires.1 c.requires.0

pub returns : goal.returns
returns c =
    let t = track_in c.args.track.now in
    let list = c.args.list.now in
    record {
      collapse_given = collapse_given {t = t} list c.collapse_position.ensures c.requires.1 c.list_out.ensures;
      position_after = collapse_position {t = t} list c.collapse_position.ensures c.requires.1 c.requires.0;
    }

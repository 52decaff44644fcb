-- `writer::draft::board` meets its contract: the bytes of the board stand from the first place on.
-- From the contracts of `first_bytes` and `entries`.
use Rattle.writer.proofs.Drafting.{board_drafted}
use Rattle.writer.proofs.draft.board.Goals as goal

pub returns : goal.returns
returns c =
    board_drafted c.args.contents.now.wide c.args.contents.now.track.head c.args.contents.now.track.ends.now c.args.contents.now.sheet.now c.args.draft.now c.requires c.first_bytes.ensures c.entries.ensures

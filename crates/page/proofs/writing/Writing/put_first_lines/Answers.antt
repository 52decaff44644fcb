-- `Writing::put_first_lines` meets its contract: five texts are put one after another.
-- After each, one text fewer is left to write, and there is room for the next (`then`, `room_left` of PutLaws); after the last, none.
use Rattle.page.proofs.PutLaws.{◌then◌, room_left, ends}
use Rattle.page.proofs.PagePut.{first_starts}
use Rattle.page.proofs.writing.Writing.put_first_lines.Goals as goal

pub put_labelled-requires : goal.put_labelled-requires
put_labelled-requires c = room_left (first_starts c.args.summary c.args.verdict c.requires)

pub put_labelled-requires-2 : goal.put_labelled-requires-2
put_labelled-requires-2 c = room_left (first_starts c.args.summary c.args.verdict c.requires then c.put_labelled.ensures)

pub put_labelled-requires-3 : goal.put_labelled-requires-3
put_labelled-requires-3 c = room_left (first_starts c.args.summary c.args.verdict c.requires then c.put_labelled.ensures then c.put_labelled-2.ensures)

pub put_labelled-requires-4 : goal.put_labelled-requires-4
put_labelled-requires-4 c = room_left (first_starts c.args.summary c.args.verdict c.requires then c.put_labelled.ensures then c.put_labelled-2.ensures then c.put_labelled-3.ensures)

pub put_text-requires : goal.put_text-requires
put_text-requires c = room_left (first_starts c.args.summary c.args.verdict c.requires then c.put_labelled.ensures then c.put_labelled-2.ensures then c.put_labelled-3.ensures then c.put_labelled-4.ensures)

pub returns : goal.returns
returns c = ends (first_starts c.args.summary c.args.verdict c.requires then c.put_labelled.ensures then c.put_labelled-2.ensures then c.put_labelled-3.ensures then c.put_labelled-4.ensures then c.put_text.ensures)

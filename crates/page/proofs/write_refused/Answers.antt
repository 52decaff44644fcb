-- `page::write_refused` meets its contract: the text with the number is put, and then the newline.
-- From the contracts of `put_labelled` and `put_text`, put in a row by PutLaws; from place 0 on, they begin the page.
use Rattle.std.proofs.Common.{rules}
use Rattle.page.proofs.PutLaws.{◌then◌, lent_room, room_left, ends, begins}
use Rattle.page.proofs.PagePut.{refused_starts}
use Rattle.page.proofs.write_refused.Goals as goal

pub put_labelled-requires : goal.put_labelled-requires
put_labelled-requires c = room_left (refused_starts c.args.number (lent_room c.begin-writing.ensures.begun c.requires))

pub put_text-requires : goal.put_text-requires
put_text-requires c = room_left (refused_starts c.args.number (lent_room c.begin-writing.ensures.begun c.requires) then c.put_labelled.ensures)

pub returns : goal.returns
returns c =
    let page_put = begins c.begin-writing.ensures.begun (ends (refused_starts c.args.number (lent_room c.begin-writing.ensures.begun c.requires) then c.put_labelled.ensures then c.put_text.ensures)) in
    search rules

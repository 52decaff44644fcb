-- `page::write_key` meets its contract: five texts are put one after another.
-- After each, one text fewer is left to write, with room for the next (PutLaws); all together, from place 0 on, begin the page.
use Rattle.std.proofs.Common.{rules}
use Rattle.page.proofs.PutLaws.{◌then◌, lent_room, room_left, ends, begins}
use Rattle.page.proofs.PagePut.{key_starts}
use Rattle.page.proofs.write_key.Goals as goal

pub put_first_lines-requires : goal.put_first_lines-requires
put_first_lines-requires c = room_left (key_starts _ _ _ _ (lent_room c.begin-writing.ensures.begun c.requires.room))

pub put_plan-requires-clause-room : goal.put_plan-requires-clause-room
put_plan-requires-clause-room c = room_left (key_starts _ _ _ _ (lent_room c.begin-writing.ensures.begun c.requires.room) then c.put_first_lines.ensures)

pub put_text-requires : goal.put_text-requires
put_text-requires c = room_left (key_starts _ _ _ _ (lent_room c.begin-writing.ensures.begun c.requires.room) then c.put_first_lines.ensures then c.put_plan.ensures)

pub put_list-requires : goal.put_list-requires
put_list-requires c = room_left (key_starts _ _ _ _ (lent_room c.begin-writing.ensures.begun c.requires.room) then c.put_first_lines.ensures then c.put_plan.ensures then c.put_text.ensures)

pub put_text-requires-2 : goal.put_text-requires-2
put_text-requires-2 c = room_left (key_starts _ _ _ _ (lent_room c.begin-writing.ensures.begun c.requires.room) then c.put_first_lines.ensures then c.put_plan.ensures then c.put_text.ensures then c.put_list.ensures)

pub returns : goal.returns
returns c =
    let page_put = begins c.begin-writing.ensures.begun
    (ends (key_starts _ _ _ _ (lent_room c.begin-writing.ensures.begun c.requires.room) then c.put_first_lines.ensures then c.put_plan.ensures then c.put_text.ensures then c.put_list.ensures then c.put_text-2.ensures)) in
    search rules

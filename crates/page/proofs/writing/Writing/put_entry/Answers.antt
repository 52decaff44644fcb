-- `Writing::put_entry` meets its contract: four texts are put one after another.
-- After each, one text fewer is left to write, and there is room for the next (`then`, `room_left` of PutLaws); after the last, none.
use Rattle.page.proofs.PutLaws.{◌then◌, room_left, ends}
use Rattle.page.proofs.PlanPut.{entry_starts}
use Rattle.page.proofs.writing.Writing.put_entry.Goals as goal

pub put_labelled-requires : goal.put_labelled-requires
put_labelled-requires c = room_left (entry_starts (record { carrier = c.args.carrier; words = c.args.words.now }) c.requires)

pub put_text-requires : goal.put_text-requires
put_text-requires c = room_left (entry_starts (record { carrier = c.args.carrier; words = c.args.words.now }) c.requires then c.put_labelled.ensures)

pub put_words-requires : goal.put_words-requires
put_words-requires c = room_left (entry_starts (record { carrier = c.args.carrier; words = c.args.words.now }) c.requires then c.put_labelled.ensures then c.put_text.ensures)

pub put_text-requires-2 : goal.put_text-requires-2
put_text-requires-2 c = room_left (entry_starts (record { carrier = c.args.carrier; words = c.args.words.now }) c.requires then c.put_labelled.ensures then c.put_text.ensures then c.put_words.ensures)

pub returns : goal.returns
returns c = ends (entry_starts (record { carrier = c.args.carrier; words = c.args.words.now }) c.requires then c.put_labelled.ensures then c.put_text.ensures then c.put_words.ensures then c.put_text-2.ensures)

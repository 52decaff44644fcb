-- `Writing::put_words` meets its contract: each word is put after a space.
-- The invariant: what is left to write is the words from here on, each after a space (SpacedPut).
use Rattle.page.proofs.PutLaws.{room_left, ◌then◌}
use Rattle.page.proofs.SpacedPut.{spacing_ends, spacing_goes}
use Rattle.page.proofs.writing.Writing.put_words.Goals as goal

pub put_text-requires : goal.put_text-requires
put_text-requires c = room_left (spacing_goes _ _ c.loop-word.invariant c.loop-word-test.true)

pub put_word-requires : goal.put_word-requires
put_word-requires c = room_left (spacing_goes _ _ c.loop-word.invariant c.loop-word-test.true then c.put_text.ensures)

pub loop-word-preserved : goal.loop-word-preserved
loop-word-preserved c =
    spacing_goes _ _ c.loop-word.invariant c.loop-word-test.true then c.put_text.ensures then c.put_word.ensures

pub returns : goal.returns
returns c = spacing_ends _ _ c.loop-word.invariant c.loop-word-test.false

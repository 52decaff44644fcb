-- `Writing::put_word` meets its contract: the zone is put, and then + or -.
-- The test of the heading tells the sign; after the zone there is room for it, and it makes the word's text (laws of WordPut).
use Rattle.page.proofs.PutLaws.{room_left, ◌then◌, ends}
use Rattle.page.proofs.WordPut.{plus_starts, minus_starts, word_starts}
use Rattle.page.proofs.writing.Writing.put_word.Goals as goal
use Rattle.page.proofs.writing.Writing.put_word.Goals.{then-word-eq0, else-word-eq0}

pub put_decimal-requires : goal.put_decimal-requires
put_decimal-requires c = room_left (word_starts c.args.word c.requires)

pub put_text-requires : goal.put_text-requires
put_text-requires c =
    elim c.if-word-eq0.branch [
      | then-word-eq0 w ↦ rw w.put_text-is (room_left (plus_starts c.args.word w.if-word-eq0.true c.requires then c.put_decimal.ensures))
      | else-word-eq0 w ↦ rw w.put_text-is (room_left (minus_starts c.args.word w.if-word-eq0.false c.requires then c.put_decimal.ensures))
    ]

pub returns : goal.returns
returns c =
    elim c.if-word-eq0.branch [
      | then-word-eq0 w ↦ ends (plus_starts c.args.word w.if-word-eq0.true c.requires then c.put_decimal.ensures then (rw w.put_text-is at c.put_text.ensures))
      | else-word-eq0 w ↦ ends (minus_starts c.args.word w.if-word-eq0.false c.requires then c.put_decimal.ensures then (rw w.put_text-is at c.put_text.ensures))
    ]

-- `Writing::put_decimal`, which calls itself, meets its contract: the number is put in decimal.
-- The measure of the cycle of calls is the number, which falls by its last digit. Each way is a law of DecimalPut.
use Rattle.std.proofs.Common.{arith}
use Rattle.page.proofs.DecimalPut.{few_starts, more_starts}
use Rattle.page.proofs.PutLaws.{room_left, ◌then◌, ends}
use Rattle.page.proofs.writing.Writing.+put_decimal.Goals as goal
use Rattle.page.proofs.writing.Writing.+put_decimal.Goals.{then-n-ge10, else-n-ge10}

pub put_decimal-requires : goal.put_decimal-requires
put_decimal-requires t c = (omega arith, room_left (more_starts c.if-n-ge10.true c.requires))

pub put_text-requires : goal.put_text-requires
put_text-requires t c =
    elim c.if-n-ge10.branch [
      | then-n-ge10 w ↦ rw w.self-is (room_left (more_starts w.if-n-ge10.true c.requires then w.put_decimal.ensures))
      | else-n-ge10 w ↦ rw w.self-is (room_left (few_starts w.if-n-ge10.false c.requires))
    ]

pub returns : goal.returns
returns t c =
    elim c.if-n-ge10.branch [
      | then-n-ge10 w ↦ ends (more_starts w.if-n-ge10.true c.requires then w.put_decimal.ensures then (rw w.self-is at c.put_text.ensures))
      | else-n-ge10 w ↦ ends (few_starts w.if-n-ge10.false c.requires then (rw w.self-is at c.put_text.ensures))
    ]

-- The number of each way in which a write is turned back; and of a write's result, with the count of the bytes that were written.
use Rattle.std.specs.Prelude.{ℕ, Result, Ok, Err}
use Rattle.board.specs.Refusals.{refusal_number}
use Rattle.writer.specs.declared.refused.Refused.{Refused}
use Rattle.writer.specs.declared.refused.Refused.TheVariants.{Board, Unwritable}

abbrev pub refused_number : Refused → ℕ
refused_number (Board refusal) = refusal_number refusal
refused_number Unwritable = 39

-- the number of a result: 0 where the copy is written
abbrev pub number_of : Result ℕ Refused → ℕ
number_of (Ok count) = 0
number_of (Err refused) = refused_number refused

-- how many bytes were written
abbrev pub count_of : Result ℕ Refused → ℕ
count_of (Ok count) = count
count_of (Err refused) = 0

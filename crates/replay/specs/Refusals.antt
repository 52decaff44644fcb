-- The number of each way in which a replay is turned back or stops; and of a replay's result, with how many moves were done.
use Rattle.std.specs.Prelude.{ℕ, Result, Ok, Err}
use Rattle.board.specs.Refusals.{refusal_number}
use Rattle.replay.specs.declared.refused.Refused.{Refused}
use Rattle.replay.specs.declared.refused.Refused.TheVariants.{Board, ShortPosition, OddLog, Forbidden}

abbrev pub refused_number : Refused → ℕ
refused_number (Board refusal) = refusal_number refusal
refused_number ShortPosition = 36
refused_number OddLog = 37
refused_number (Forbidden moves) = 38

-- the number of a result: 0 where every move was done
abbrev pub number_of : Result ℕ Refused → ℕ
number_of (Ok moves) = 0
number_of (Err refused) = refused_number refused

-- the moves that were done before one that is forbidden; none where the replay is turned back
abbrev pub moves_before : Refused → ℕ
moves_before (Board refusal) = 0
moves_before ShortPosition = 0
moves_before OddLog = 0
moves_before (Forbidden moves) = moves

-- how many moves a result says were done
abbrev pub moves_of : Result ℕ Refused → ℕ
moves_of (Ok moves) = moves
moves_of (Err refused) = moves_before refused

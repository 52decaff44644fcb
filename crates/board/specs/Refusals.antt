-- The number of each refusal; and of what may be refused, where 0 says that it isn't.
use Rattle.std.specs.Prelude.{ℕ, Result, Ok, Err}
use Rattle.board.specs.declared.refusal.Refusal.{Refusal}
use Rattle.board.specs.declared.refusal.Refusal.TheVariants.{TooShort, WrongLength, WrongVersion, OutOfRange, WrongCount, BadZone, CarrierTwice, LoosePoint, Apart}

abbrev pub refusal_number : Refusal → ℕ
refusal_number TooShort = 1
refusal_number WrongLength = 2
refusal_number WrongVersion = 3
refusal_number OutOfRange = 4
refusal_number WrongCount = 5
refusal_number BadZone = 6
refusal_number CarrierTwice = 7
refusal_number LoosePoint = 8
refusal_number Apart = 9

-- what may be refused: the number of its refusal, else 0
abbrev pub number_of : {A : Type 0} → Result A Refusal → ℕ
number_of (Ok a) = 0
number_of (Err r) = refusal_number r

-- The numbers of the faults of a sheet, and of a marking: 0 where it finds none.
use Rattle.std.specs.Prelude.{ℕ, Result, Ok, Err}
use Rattle.marker.specs.declared.fault.Fault.{Fault}
use Rattle.marker.specs.declared.fault.Fault.TheVariants.{BadSheet, NotOut, BadWord, NotHome, StillOut, FalseClaim}

abbrev pub fault_number : Fault → ℕ
fault_number BadSheet = 30
fault_number NotOut = 31
fault_number BadWord = 32
fault_number NotHome = 33
fault_number StillOut = 34
fault_number FalseClaim = 35

abbrev pub mark_number : {A : Type 0} → Result A Fault → ℕ
mark_number (Ok a) = 0
mark_number (Err f) = fault_number f

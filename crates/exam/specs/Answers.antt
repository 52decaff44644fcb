-- The answers of the operations in the document's numbers: a case of each enum has its number, and a refusal has lengths and counts of 0.
use Rattle.std.specs.Prelude.{ℕ, Result, Ok, Err}
use Rattle.model.specs.declared.Summary.{Summary}
use Rattle.board.specs.Refusals.{refusal_number}
use Rattle.marker.specs.Faults.{fault_number}
use Rattle.exam.specs.declared.parsed.Verdict.{Verdict}
use Rattle.exam.specs.declared.parsed.Verdict.TheVariants.{Ordered, Blocked}
use Rattle.exam.specs.declared.parsed.DrawnKey.{DrawnKey}
use Rattle.exam.specs.declared.refused.Refused.{Refused}
use Rattle.exam.specs.declared.refused.Refused.TheVariants as RefusedBy
use Rattle.exam.specs.declared.refused.Wrong.{Wrong}
use Rattle.exam.specs.declared.refused.Wrong.TheVariants as WrongBy

abbrev pub verdict_number : Verdict → ℕ
verdict_number Ordered = 0
verdict_number Blocked = 20

abbrev pub refused_number : Refused → ℕ
refused_number (RefusedBy.Board refusal) = refusal_number refusal
refused_number RefusedBy.ShortPlan = 10
refused_number RefusedBy.ShortList = 11

abbrev pub wrong_number : Wrong → ℕ
wrong_number (WrongBy.Board refusal) = refusal_number refusal
wrong_number (WrongBy.Sheet fault) = fault_number fault

-- the key's: the verdict, how many words and carriers are written, the search count, and what is said of the board
pub record KeyNumbers : Type 0 where
  pub verdict : ℕ
  pub planned : ℕ
  pub listed : ℕ
  pub searched : ℕ
  pub summary : Summary

abbrev pub key_numbers : Result DrawnKey Refused → KeyNumbers
key_numbers (Ok key) =
    record { verdict = verdict_number key.verdict; planned = key.planned; listed = key.listed; searched = key.searched; summary = key.summary }
key_numbers (Err refused) =
    record { verdict = refused_number refused; planned = 0; listed = 0; searched = 0; summary = record { points = 0; zones = 0; out = 0 } }

-- the collapse's: its number, and how many carriers are written
pub record CollapseNumbers : Type 0 where
  pub number : ℕ
  pub listed : ℕ

abbrev pub collapse_numbers : Result ℕ Refused → CollapseNumbers
collapse_numbers (Ok listed) = record { number = 0; listed = listed }
collapse_numbers (Err refused) = record { number = refused_number refused; listed = 0 }

-- the sheet's, on a board in bytes
abbrev pub sheet_number : Result (Unit {0}) Wrong → ℕ
sheet_number (Ok right) = 0
sheet_number (Err wrong) = wrong_number wrong

-- What the write promises, for every input whatever. b are the board's bytes; copy is what was lent, copy' at exit.
use Rattle.std.specs.Prelude.{ℕ, List, ◌≡◌, length, take, drop}
use Rattle.faircopy.specs.Write.{write_of}
use Rattle.faircopy.specs.WriteRight.{NumbersRight, WrittenRight}
use Rattle.writer.specs.Given.{WriteGiven}

pub record WritePromise (b sheet copy : List ℕ) (number count : ℕ) (copy' : List ℕ) : Type 0 where
  -- result and lent bytes: 1 to 9 of the board, 39, and 6 and 7 of the copy, tried in that order, give 0 bytes and write nothing
  pub given : WriteGiven (write_of b sheet (length copy)) copy number count copy'
  pub nothing : (number ≡ 0 → ⊥) → (count ≡ 0) × (copy' ≡ copy)
  -- lent bytes past the copy stay as lent
  pub past : drop count copy' ≡ drop count copy
  -- when each number is given, and what is written on 0, in relations: nothing of the definition has to be believed but that of the copy's bytes
  -- whose refusal the number is
  pub numbers : NumbersRight b sheet (length copy) number
  pub right : number ≡ 0 → WrittenRight b sheet (take count copy')

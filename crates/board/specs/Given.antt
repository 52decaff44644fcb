-- What the board reader gives, for every list of bytes: the number of the first row that holds, and where none does the track and the first position.
-- The two arrays have room for the largest board, and hold zeros past what a board says. On a refusal every number but the refusal's own is zero.
use Rattle.std.specs.Prelude.{ℕ, ◌-◌, List, ◌++◌, cond, length, replicate, eqb, Result, Ok, Err}
use Rattle.model.specs.declared.Head.{Head}
use Rattle.model.specs.Reading.{points_said, home_said, zones_said, track_said, position_said, refusal}
use Rattle.board.specs.declared.Board.{Board}
use Rattle.board.specs.declared.refusal.Refusal.{Refusal}
use Rattle.board.specs.Refusals.{number_of, refusal_number}

-- all that a reading gives: the number, and the head and the arrays of a board
pub record BoardRead : Type 0 where
  pub number : ℕ
  pub head : Head
  pub ends : List ℕ
  pub position : List ℕ

-- a list made n long by zeros at its end
unfoldable pub padded : ℕ → List ℕ → List ℕ
padded n l = l ++ replicate (n - length l) 0

-- what the bytes say
unfoldable pub head_said : List ℕ → Head
head_said b = record { points = points_said b; home = home_said b; zones = zones_said b }

unfoldable pub board_said : List ℕ → BoardRead
board_said b = record {
  number = 0;
  head = head_said b;
  ends = padded 192 (track_said b).ends;
  position = padded 96 (position_said b);
}

-- a head of zeros
abbrev pub head_refused : Head
head_refused = record { points = 0; home = 0; zones = 0 }

unfoldable pub board_refused : ℕ → BoardRead
board_refused n = record { number = n; head = head_refused; ends = replicate 192 0; position = replicate 96 0 }

unfoldable pub board_of : List ℕ → BoardRead
board_of b = let said = board_said b in cond (eqb (refusal b) 0) said (board_refused (refusal b))

-- the head that was given
abbrev pub head_of : Result Head Refusal → Head
head_of (Ok head) = head
head_of (Err r) = head_refused

-- what `read_into` gives, with the arrays as it leaves them
abbrev pub board_with : Result Head Refusal → List ℕ → List ℕ → BoardRead
board_with r e s = record { number = number_of r; head = head_of r; ends = e; position = s }

-- what `read` gives
abbrev pub board_given : Result Board Refusal → BoardRead
board_given (Ok board) = record { number = 0; head = board.head; ends = board.ends; position = board.position }
board_given (Err r) = board_refused (refusal_number r)

-- What the functions that carry out one move give.
use Rattle.std.specs.Prelude.{ℕ, ◌≡◌, Bool, true, false, Some, None, Option as OptionInCode}
use Rattle.std.proofs.Math.Option.{Option, none, some}
use Rattle.model.specs.Track.{Track}
use Rattle.model.specs.Position.{Position}
use Rattle.rules.specs.Tries.{Move}
use Rattle.rules.specs.SingleMoves.{after_move}

-- the code's option as the definitions'
abbrev pub option_in : OptionInCode ℕ → Option ℕ
option_in None = none
option_in (Some z) = some z

-- the outcome of a move that leaves this position, or none: whether it was done, and the position left
abbrev pub is_done : Option Position → Bool
is_done none = false
is_done (some q) = true

abbrev pub left_or : Position → Option Position → Position
left_or p none = p
left_or p (some q) = q

-- a move that was tried: it was done exactly where the rules allow it, and where they forbid it nothing changed
pub record MoveTried (t : Track) (p : Position) (m : Move) (done : Bool) (q : Position) : Type 0 where
  pub done_is : done ≡ is_done (after_move t p m)
  pub left_is : q ≡ left_or p (after_move t p m)

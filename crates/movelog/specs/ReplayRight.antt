-- What is promised of a replay in relations alone, so that neither the test of a move nor the run through the log has to be believed.
use Rattle.std.specs.Prelude.{ℕ, List, ◌≡◌, ◌⊎◌, ◌↔◌, length, take}
use Rattle.model.specs.Track.{Track}
use Rattle.model.specs.Position.{Position, Stands}
use Rattle.model.specs.Accepted.{Laid, Limited}
use Rattle.rules.specs.Routes.{Blocked}
use Rattle.rules.specs.Tries.{Move, Moves}
use Rattle.demands.specs.Demands.{Full}
use Rattle.movelog.specs.CarriedOut.{CarriedOut, StopsAfter}

-- a replay of these moves from position p, with this number and so many moves done, whose sheet shows position q
pub record ReplayRight (t : Track) (p : Position) (ms : List Move) (number moves : ℕ) (q : Position) : Type 0 where
  -- the moves done, as many of the list as the count says, are each allowed in turn and lead to what the sheet shows
  pub carried : CarriedOut t p (take moves ms) q
  -- on 0 they are all; on 38 the next one is forbidden there; and no other number is given
  pub all_done : number ≡ 0 → CarriedOut t p ms q × (moves ≡ length ms)
  pub stopped : number ≡ 38 → StopsAfter t p ms moves q
  pub numbers : (number ≡ 0) ⊎ (number ≡ 38)
  -- so 0 is given exactly where every move is allowed in its turn, 38 exactly where some move is forbidden at its turn, and moves lead nowhere
  -- else and stop nowhere else
  pub done_exactly : (number ≡ 0) ↔ ((r : Position) × CarriedOut t p ms r)
  pub stopped_exactly : (number ≡ 38) ↔ ((n : ℕ) × (r : Position) × StopsAfter t p ms n r)
  pub one_end : (r : Position) → CarriedOut t p ms r → r ≡ q
  pub one_stop : (n : ℕ) (r : Position) → StopsAfter t p ms n r → (n ≡ moves) × (r ≡ q)
  -- the moves done, as a list of single moves, lead to the same position
  pub moved : Moves t p (take moves ms) q
  -- what is shown is laid on the track, and no word of it is over the limit, where none was at first
  pub laid : Laid t q
  pub limited : Limited p → Limited q
  -- demand 3 of it: with every zone held at first, each blocked carrier is shown in its zone with its heading
  pub still : Full t p → (c w : ℕ) → Blocked t p c → Stands p c w → Stands q c w

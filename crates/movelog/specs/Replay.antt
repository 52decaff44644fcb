-- The replay of a move log: each pair is carried out from the board's position on, up to the first move that the rules forbid. 36, 37 and 38 of
-- document 02.
use Rattle.std.specs.Prelude.{ℕ, suc, ◌%◌, List, [], ◌∷◌, cond, not, length, ltb, eqb}
use Rattle.std.proofs.Math.Option.{Option, none, some}
use Rattle.model.specs.Track.{Track}
use Rattle.model.specs.Position.{Position}
use Rattle.model.specs.Reading.{refusal, track_said, position_said}
use Rattle.rules.specs.Tries.{Move}
use Rattle.rules.specs.SingleMoves.{after_move}
use Rattle.movelog.specs.Log.{moves_said}

-- what a replay gives: the number, how many moves were done, and the words written to the sheet, one for each zone: the position that it shows
pub record ReplayAnswer : Type 0 where
  pub number : ℕ
  pub moves : ℕ
  pub shown : Position

-- the same with one move more done before
abbrev pub one_more : ReplayAnswer → ReplayAnswer
one_more a = record { number = a.number; moves = suc a.moves; shown = a.shown }

-- 38 at a move that the rules forbid, or of a carrier that isn't out: the position before it is shown
abbrev pub replay_on : Position → Option Position → (Position → ReplayAnswer) → ReplayAnswer
replay_on p none rest = record { number = 38; moves = 0; shown = p }
replay_on p (some q) rest = one_more (rest q)

-- 0 where all are done
unfoldable pub replay_for : Track → Position → List Move → ReplayAnswer
replay_for t p [] = record { number = 0; moves = 0; shown = p }
replay_for t p (m ∷ ms) = replay_on p (after_move t p m) (λ q. replay_for t q ms)

-- nothing is done and nothing is written
abbrev pub replay_refused : ℕ → ReplayAnswer
replay_refused n = record { number = n; moves = 0; shown = [] }

-- 36 where the sheet has fewer than Z words, then 37 where the log has an odd number of words
unfoldable pub replay_in : Track → Position → List ℕ → ℕ → ReplayAnswer
replay_in t p log sheetRoom =
    let r = replay_for t p (moves_said log) in
    cond (ltb sheetRoom t.zones) (replay_refused 36)
    (cond (not (eqb (length log % 2) 0)) (replay_refused 37) r)

-- the replay on a board in bytes, with this room lent for the sheet: 1 to 9 first
unfoldable pub replay_of : List ℕ → List ℕ → ℕ → ReplayAnswer
replay_of b log sheetRoom =
    let r = replay_in (track_said b) (position_said b) log sheetRoom in
    cond (eqb (refusal b) 0) r (replay_refused (refusal b))

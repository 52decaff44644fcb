-- Replays of document 02's request a: a board, a log and a sheet as lent, with the number, the count of moves done and the sheet at exit.
use Rattle.std.specs.Prelude.{ℕ, List, [], ◌∷◌, map, ◌≡◌, length}
use Rattle.model.specs.Labels.{parts, join_zones, join_points}
use Rattle.model.specs.Lists.{overwritten}
use Rattle.model.specs.Layout.{stride}
use Rattle.model.specs.Reading.{refusal, too_short, wrong_length, wrong_version, out_of_range, wrong_count, bad_zone, repeated, under_two, apart, track_said, position_said, carrier_in}
use Rattle.rules.specs.Key.{zone_for}
use Rattle.rules.specs.SingleMoves.{after_move}
use Rattle.rules.specs.Starred.{board_t, turn_with}
use Rattle.rules.specs.Table.{board_k}
use Rattle.rules.specs.HomeGate.{near_home, other_home}
use Rattle.rules.specs.TurningLoops.{zone, free, laid_out, loop_at_home}
use Rattle.rules.specs.WideCarriers.{wide_k}
use Rattle.movelog.specs.Log.{move_said, moves_said}
use Rattle.movelog.specs.Replay.{ReplayAnswer, replay_for, replay_in, replay_of}

pub data ReplayRow : Type 0 where
  on_log : (bytes log lent : List ℕ) (number moves : ℕ) (sheet : List ℕ) → ReplayRow

-- an answer with the whole sheet in the place of what is written to it
abbrev whole_sheet : List ℕ → ReplayAnswer → ReplayAnswer
whole_sheet lent a = record { number = a.number; moves = a.moves; shown = overwritten a.shown lent }

-- what the definition gives, computed
unfoldable pub computed : ReplayRow → ReplayAnswer
unfolding replay_of replay_in replay_for moves_said move_said after_move zone_for refusal too_short wrong_length wrong_version out_of_range wrong_count bad_zone repeated under_two apart parts join_zones join_points track_said position_said stride carrier_in
computed (on_log b log lent n k s) = whole_sheet lent (replay_of b log (length lent))

-- what the row says
abbrev pub stated : ReplayRow → ReplayAnswer
stated (on_log b log lent n k s) = record { number = n; moves = k; shown = s }

abbrev pub ReplaysHold : List ReplayRow → Type 0
ReplaysHold rows = map computed rows ≡ map stated rows

-- a replay on board K, two words lent that hold 9
abbrev on_k : List ℕ → ℕ → ℕ → List ℕ → ReplayRow
on_k log = on_log board_k log (9 ∷ 9 ∷ [])

-- one that stops at its first move
abbrev stops_on_k : List ℕ → ReplayRow
stops_on_k log = on_k log 38 0 (14 ∷ 0 ∷ [])

-- carrier 5 heads for point 1, which has a free turning loop
abbrev to_free_loop : List ℕ
to_free_loop = laid_out 2 (zone 0 1 5 0 ∷ free 1 1 ∷ [])

unfoldable pub replay_rows : List ReplayRow
replay_rows =
    -- into a zone, into home, and nowhere
    on_k (7 ∷ 3 ∷ 7 ∷ 65535 ∷ []) 0 2 (0 ∷ 0 ∷ []) ∷
    on_k (7 ∷ 3 ∷ []) 0 1 (0 ∷ 15 ∷ []) ∷
    on_k [] 0 0 (14 ∷ 0 ∷ []) ∷
    -- 7 heads for point 1; a forbidden move isn't passed over; once it heads for home it may go only there
    stops_on_k (7 ∷ 65535 ∷ []) ∷
    stops_on_k (7 ∷ 65535 ∷ 7 ∷ 3 ∷ []) ∷
    on_k (7 ∷ 3 ∷ 7 ∷ 0 ∷ []) 38 1 (0 ∷ 15 ∷ []) ∷
    on_k (7 ∷ 3 ∷ 7 ∷ 0 ∷ 7 ∷ 65535 ∷ []) 38 1 (0 ∷ 15 ∷ []) ∷
    on_k (7 ∷ 3 ∷ 8 ∷ 65535 ∷ 7 ∷ 65535 ∷ []) 38 1 (0 ∷ 15 ∷ []) ∷
    -- who has gone home isn't out
    on_k (7 ∷ 3 ∷ 7 ∷ 65535 ∷ 7 ∷ 65535 ∷ []) 38 2 (0 ∷ 0 ∷ []) ∷
    on_k (7 ∷ 3 ∷ 7 ∷ 65535 ∷ 7 ∷ 0 ∷ []) 38 2 (0 ∷ 0 ∷ []) ∷
    -- 0 and 263 aren't out; its own zone isn't free; a word that starts elsewhere; words past the last
    stops_on_k (0 ∷ 3 ∷ []) ∷
    stops_on_k (0 ∷ 65535 ∷ []) ∷
    stops_on_k (263 ∷ 3 ∷ []) ∷
    stops_on_k (7 ∷ 1 ∷ []) ∷
    stops_on_k (7 ∷ 0 ∷ []) ∷
    stops_on_k (7 ∷ 2 ∷ []) ∷
    stops_on_k (7 ∷ 4 ∷ []) ∷
    stops_on_k (7 ∷ 65534 ∷ []) ∷
    -- one that heads for home at first: into home, and the gate
    on_log near_home (7 ∷ 65535 ∷ []) (9 ∷ 9 ∷ []) 0 1 (0 ∷ 0 ∷ []) ∷
    on_log near_home (7 ∷ 2 ∷ []) (9 ∷ 9 ∷ []) 38 0 (15 ∷ 0 ∷ []) ∷
    on_log other_home (7 ∷ 2 ∷ 7 ∷ 65535 ∷ []) (9 ∷ 9 ∷ []) 0 2 (0 ∷ 0 ∷ []) ∷
    on_log loop_at_home (5 ∷ 65535 ∷ []) (9 ∷ 9 ∷ 9 ∷ []) 0 1 (0 ∷ 0 ∷ 0 ∷ []) ∷
    on_log loop_at_home (5 ∷ 0 ∷ []) (9 ∷ 9 ∷ 9 ∷ []) 38 0 (0 ∷ 0 ∷ 11 ∷ []) ∷
    -- another's zone isn't free
    on_log (board_t 7 0 9 1) (7 ∷ 3 ∷ []) (9 ∷ 9 ∷ []) 38 0 (14 ∷ 19 ∷ []) ∷
    on_log (board_t 7 0 9 1) (9 ∷ 65535 ∷ 7 ∷ 3 ∷ []) (9 ∷ 9 ∷ []) 0 2 (0 ∷ 15 ∷ []) ∷
    -- 36 before 37, and a bad board before both; a word past Z stays as lent
    on_k (7 ∷ []) 37 0 (9 ∷ 9 ∷ []) ∷
    on_k (7 ∷ 3 ∷ 7 ∷ []) 37 0 (9 ∷ 9 ∷ []) ∷
    on_log board_k (7 ∷ []) (9 ∷ []) 36 0 (9 ∷ []) ∷
    on_log board_k (7 ∷ 3 ∷ []) (9 ∷ []) 36 0 (9 ∷ []) ∷
    on_log board_k [] [] 36 0 [] ∷
    on_log board_k (7 ∷ []) (9 ∷ 9 ∷ 9 ∷ []) 37 0 (9 ∷ 9 ∷ 9 ∷ []) ∷
    on_log board_k (7 ∷ 3 ∷ []) (9 ∷ 9 ∷ 9 ∷ []) 0 1 (0 ∷ 15 ∷ 9 ∷ []) ∷
    on_log (board_t 7 2 0 0) (7 ∷ []) [] 6 0 [] ∷
    on_log (board_t 7 0 7 0) (7 ∷ 3 ∷ []) (9 ∷ 9 ∷ []) 7 0 (9 ∷ 9 ∷ []) ∷
    on_log [] [] [] 1 0 [] ∷
    -- round the turn and back through its own zone; the turn with 6 is emptied
    on_log (turn_with 0 0) (5 ∷ 2 ∷ 5 ∷ 5 ∷ 5 ∷ 1 ∷ 5 ∷ 65535 ∷ []) (9 ∷ 9 ∷ 9 ∷ []) 0 4 (0 ∷ 0 ∷ 0 ∷ []) ∷
    on_log (turn_with 6 1) (5 ∷ 4 ∷ 6 ∷ 1 ∷ 6 ∷ 65535 ∷ 5 ∷ 3 ∷ 5 ∷ 1 ∷ 5 ∷ 65535 ∷ []) (9 ∷ 9 ∷ 9 ∷ []) 0 6 (0 ∷ 0 ∷ 0 ∷ []) ∷
    -- version 2: the whole number counts
    on_log (wide_k 1 7 0) (263 ∷ 3 ∷ []) (9 ∷ 9 ∷ []) 0 1 (0 ∷ 527 ∷ []) ∷
    on_log (wide_k 1 7 0) (7 ∷ 3 ∷ []) (9 ∷ 9 ∷ []) 38 0 (526 ∷ 0 ∷ []) ∷
    on_log (wide_k 255 255 0) (65535 ∷ 3 ∷ []) (9 ∷ 9 ∷ []) 0 1 (0 ∷ 131071 ∷ []) ∷
    on_log (wide_k 255 255 0) (65535 ∷ 3 ∷ 65535 ∷ 65535 ∷ []) (9 ∷ 9 ∷ []) 0 2 (0 ∷ 0 ∷ []) ∷
    -- round a turning loop; it isn't entered again straight after itself
    on_log to_free_loop (5 ∷ 2 ∷ 5 ∷ 1 ∷ 5 ∷ 65535 ∷ []) (9 ∷ 9 ∷ []) 0 3 (0 ∷ 0 ∷ []) ∷
    on_log to_free_loop (5 ∷ 2 ∷ 5 ∷ 3 ∷ []) (9 ∷ 9 ∷ []) 38 1 (0 ∷ 10 ∷ []) ∷ []

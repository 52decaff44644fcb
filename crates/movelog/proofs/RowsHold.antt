-- Every row of the table of replays holds.
-- The definition computes: one `refl` for the whole table. So many rows stand in it, lest an empty table hold.
use mathlib.Core.List.{flatten}
use mathlib.Core.Path.{◌≡◌, refl}
use lib.ListN.{length}
use Rattle.rules.specs.Starred.{board_t, turn_with}
use Rattle.rules.specs.Table.{board_k}
use Rattle.rules.specs.HomeGate.{near_home, other_home}
use Rattle.rules.specs.TurningLoops.{loop_at_home}
use Rattle.movelog.specs.ReplayRows.{ReplaysHold, computed, replay_rows}

pub replay_rows_lem : length replay_rows ≡ 43
unfolding replay_rows
replay_rows_lem = refl

pub replays_hold : ReplaysHold replay_rows
unfolding replay_rows board_k board_t near_home other_home loop_at_home turn_with flatten computed
replays_hold = refl

-- Every row of the table of writes holds.
-- The definition computes: one `refl` for the whole table. So many rows stand in it, lest an empty table hold.
use mathlib.Core.List.{flatten}
use mathlib.Core.Path.{◌≡◌, refl}
use lib.ListN.{length}
use Rattle.rules.specs.Starred.{board_t}
use Rattle.rules.specs.Table.{board_k, headed}
use Rattle.rules.specs.TurningLoops.{loop_at_home}
use Rattle.rules.specs.WideCarriers.{wide_zones_free}
use Rattle.faircopy.specs.WriteRows.{WritesHold, computed, write_rows}

pub write_rows_lem : length write_rows ≡ 56
unfolding write_rows
write_rows_lem = refl

pub writes_hold : WritesHold write_rows
unfolding write_rows board_k board_t headed loop_at_home wide_zones_free flatten computed
writes_hold = refl

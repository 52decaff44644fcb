-- Every row of the seven tables holds: the starred boards, the table of verdicts, the boards with turning loops, the home gate, the two-zone rule,
-- the boards of version 2, the search count.
-- The definitions compute: one `refl` for a whole table. So many rows stand in each, lest an empty table hold.
use mathlib.Core.List.{flatten}
use mathlib.Core.Path.{◌≡◌, refl}
use lib.ListN.{length}
use Rattle.rules.specs.Rows.{Hold, given}
use Rattle.rules.specs.Starred.{board_t, turn_with, far_loop, starred}
use Rattle.rules.specs.Table.{table, headed, board_k, zones_free}
use Rattle.rules.specs.TurningLoops.{loop_at_home, turning_loops}
use Rattle.rules.specs.HomeGate.{near_home, other_home, home_gate}
use Rattle.rules.specs.TwoZoneRule.{two_zone_rule}
use Rattle.rules.specs.WideCarriers.{wide_zones_free, wide_carriers}
use Rattle.rules.specs.SearchRows.{search_rows}

pub starred_rows : length starred ≡ 10
unfolding starred
starred_rows = refl

pub starred_hold : Hold starred
unfolding starred board_t turn_with far_loop given
starred_hold = refl

pub table_rows : length table ≡ 46
unfolding table
table_rows = refl

pub table_holds : Hold table
unfolding table headed board_k zones_free board_t given
table_holds = refl

pub loops_rows : length turning_loops ≡ 25
unfolding turning_loops
loops_rows = refl

pub loops_hold : Hold turning_loops
unfolding turning_loops loop_at_home flatten given
loops_hold = refl

pub gate_rows : length home_gate ≡ 16
unfolding home_gate
gate_rows = refl

pub gate_holds : Hold home_gate
unfolding home_gate near_home other_home loop_at_home board_k board_t flatten given
gate_holds = refl

pub two_zone_rows : length two_zone_rule ≡ 7
unfolding two_zone_rule
two_zone_rows = refl

pub two_zone_holds : Hold two_zone_rule
unfolding two_zone_rule flatten given
two_zone_holds = refl

pub wide_rows : length wide_carriers ≡ 34
unfolding wide_carriers
wide_rows = refl

pub wide_hold : Hold wide_carriers
unfolding wide_carriers wide_zones_free headed given
wide_hold = refl

pub search_rows_lem : length search_rows ≡ 14
unfolding search_rows
search_rows_lem = refl

pub search_hold : Hold search_rows
unfolding search_rows board_t turn_with far_loop flatten given
search_hold = refl

-- What is promised holds: each sentence by its theorem.
use Rattle.model.proofs.RowLaws.{refusal_right}
use Rattle.model.proofs.LoopLaws.{loop_leaves, loop_twice}
use Rattle.rules.proofs.RowsHold.{starred_rows, starred_hold}
use Rattle.rules.proofs.BoardMoves.{turn_emptied}
use Rattle.rules.proofs.MoveTested.{move_tested, forbidden_tested}
use Rattle.rules.proofs.AnotherZone.{routes_go_elsewhere, moves_go_elsewhere}
use Rattle.order.proofs.LowestOne.{one_plan}
use Rattle.homegate.proofs.KeyAsBefore.{key_same}
use Rattle.homegate.proofs.PlanAsBefore.{older_plan, older_key}
use Rattle.homegate.proofs.RouteCut.{orders_same}
use Rattle.homegate.proofs.MarkAsBefore.{rules_gated, mark_or_32}
use Rattle.homegate.proofs.SheetRunsOn.{sheet_runs_on}
use Rattle.homegate.proofs.MovesAsBefore.{gate_in_moves}
use Rattle.blocking.proofs.Loops.{each_free_part, loop_in_part}
use Rattle.blocking.proofs.SameList.{each_collapse_same}
use Rattle.searchcount.proofs.Count.{search_count}
use Rattle.alone.proofs.GoesAlone.{way_or_loop}
use Rattle.alone.proofs.NeverOne.{alone_goes, never_one, some_is_two}
use Rattle.demands.proofs.KeyMet.{key_right}
use Rattle.demands.proofs.NamedMet.{named_right}
use Rattle.versions.proofs.OneKey.{in_both_versions, answers_by_said, one_key}
use Rattle.versions.proofs.OneRefusal.{one_refusal}
use Rattle.page.proofs.Callers.{page_accepted}
use Rattle.writer.proofs.AfterReplay.{after_replay}
use Rattle.promised.specs.Promised.{Promised}

pub promised : Promised
promised = record {
  base = record {
    refusal_right = refusal_right;
    free_part = each_free_part;
    one_plan = one_plan;
    key_right = key_right;
    named_right = named_right;
    collapse_same = each_collapse_same;
    move_tested = move_tested;
    forbidden_tested = forbidden_tested;
    starred_rows = starred_rows;
    starred_hold = starred_hold;
    turn_emptied = turn_emptied;
    page_accepted = page_accepted;
  };
  requests = record {
    after_replay = after_replay;
    loop_leaves = loop_leaves;
    loop_twice = loop_twice;
    loop_in_part = loop_in_part;
    routes_go_elsewhere = routes_go_elsewhere;
    moves_go_elsewhere = moves_go_elsewhere;
    key_same = key_same;
    older_plan = older_plan;
    older_key = older_key;
    orders_same = orders_same;
    rules_gated = rules_gated;
    sheet_runs_on = sheet_runs_on;
    mark_or_32 = mark_or_32;
    gate_in_moves = gate_in_moves;
    way_or_loop = way_or_loop;
    alone_goes = alone_goes;
    never_one = never_one;
    some_is_two = some_is_two;
    in_both_versions = in_both_versions;
    answers_by_said = answers_by_said;
    one_key = one_key;
    one_refusal = one_refusal;
    search_count = search_count;
  };
}

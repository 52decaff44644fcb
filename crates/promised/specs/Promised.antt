-- Every sentence that documents 01 and 02 ask to be shown and that stands in no contract of a public operation. A field has the document's words above
-- it and a type that is named where its terms are; proofs/Kept.antt gives each its theorem. So none can be lost, or get another type, without a line
-- of this record changing; what a named type says is held by an edit in its own crate.
use Rattle.std.specs.Prelude.{◌≡◌, length}
use Rattle.model.specs.Rows.{RefusalRight}
use Rattle.model.specs.Loops.{LoopLeaves, LoopCountsTwice}
use Rattle.rules.specs.Rows.{Hold}
use Rattle.rules.specs.Starred.{starred, TurnEmptied}
use Rattle.rules.specs.SingleMoves.{MoveTested, ForbiddenTested}
use Rattle.rules.specs.AnotherZone.{RoutesGoElsewhere, MovesGoElsewhere}
use Rattle.order.specs.LowestFirst.{OnePlan}
use Rattle.homegate.specs.AgainstOlder.{KeySame, OlderPlan, OlderKey, OrdersSame, RulesGated, SheetRunsOn, MarksOr32, MovesGated}
use Rattle.blocking.specs.FreeParts.{FreePart, LoopInPart, CollapseSame}
use Rattle.searchcount.specs.Rounds.{CountsRight}
use Rattle.alone.specs.NeverOne.{WayOrLoop, AloneGoes, NeverOne, SomeIsTwo}
use Rattle.demands.specs.Demands.{KeyAlwaysRight, NamedAlwaysRight}
use Rattle.versions.specs.Versions.{InBothVersions, AnswersBySaid, OneKey, OneRefusal}
use Rattle.page.specs.Page.{AcceptedPage}
use Rattle.writer.specs.AfterReplay.{AfterReplay}

-- document 01
pub record OfTheBase : Type 0 where
  -- "1 to 11 are tried in rising order before any work, and the first whose row holds is given": rows 1 to 9, of the reader
  pub refusal_right : RefusalRight
  -- "A free part is a greatest connected set of points over free zones"
  pub free_part : FreePart
  -- "the lowest-numbered carrier that can go home leaves next", by the route that the rules name: that is one plan
  pub one_plan : OnePlan
  -- demands 2 and 3 hold of every position laid on a track, and "the collapse leaves the same list" (request i: "what was shown of order, blocking and
  -- full boards is shown over the inner form")
  pub key_right : KeyAlwaysRight
  pub named_right : NamedAlwaysRight
  pub collapse_same : CollapseSame
  -- "Any other move is forbidden and nothing changes": the test of a single move is the rule
  pub move_tested : MoveTested
  pub forbidden_tested : ForbiddenTested
  -- "The starred boards are proved from the rules as rows of one table by one lemma": ten rows
  pub starred_rows : length starred ≡ 10
  pub starred_hold : Hold starred
  -- "Single moves would still empty this board, since zone 2 is free; Definition 3 says blocked all the same"
  pub turn_emptied : TurnEmptied
  -- what `key` prints: no accepted board is `too long`
  pub page_accepted : AcceptedPage

-- document 02, request by request
pub record OfTheRequests : Type 0 where
  -- b: "Course writers want to keep a board after some moves": what a replay shows can be written
  pub after_replay : AfterReplay
  -- c: "leaves at its point with either heading", "counts twice toward the two zones of its point", "A free part with such a zone holds a loop",
  -- "can't be entered again straight after itself"
  pub loop_leaves : LoopLeaves
  pub loop_twice : LoopCountsTwice
  pub loop_in_part : LoopInPart
  pub routes_go_elsewhere : RoutesGoElsewhere
  pub moves_go_elsewhere : MovesGoElsewhere
  -- d: "Show that no board's verdict, plan or blocked list differs under the older moving rule"; who can go, who is blocked and which boards are
  -- ordered don't either
  pub key_same : KeySame
  pub older_plan : OlderPlan
  pub older_key : OlderKey
  pub orders_same : OrdersSame
  -- d: "A word that leaves at home must now be the last of its route. A sheet that runs on gets 32"
  pub rules_gated : RulesGated
  pub sheet_runs_on : SheetRunsOn
  pub mark_or_32 : MarksOr32
  -- d: "In single moves, a replay's too, a carrier heading for the home point goes only into home"
  pub gate_in_moves : MovesGated
  -- g: "Show that none can be drawn: with every other carrier gone, the two-zone rule always gives a way home or a loop to turn in"
  pub way_or_loop : WayOrLoop
  pub alone_goes : AloneGoes
  pub never_one : NeverOne
  pub some_is_two : SomeIsTwo
  -- i: "A board in both versions gets one key", and one refusal
  pub in_both_versions : InBothVersions
  pub answers_by_said : AnswersBySaid
  pub one_key : OneKey
  pub one_refusal : OneRefusal
  -- j: "It equals that definition", which no other number does
  pub search_count : CountsRight

pub record Promised : Type 0 where
  pub base : OfTheBase
  pub requests : OfTheRequests

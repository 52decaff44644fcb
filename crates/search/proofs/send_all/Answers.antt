-- `send_all` meets its contract: it stores the plan of the key's run, leaves the run's last position, and gives the search count.
-- The invariant: what is stored and the run from here make the whole run, and so for what is counted (laws of Sends). The measure is how many
-- carriers are out.
use native.Mathlib.Omega.{arith}
use Rattle.model.specs.Track.{track_in}
use Rattle.queue.specs.Queue.{words_in, froms_in}
use Rattle.std.specs.Prelude.{None}
use Rattle.search.proofs.Sends.{underway_starts, underway_few, underway_nobody, sought_at, OneGoes, goes_entry, goes_more, goes_smaller}
use Rattle.search.proofs.send_all.Goals.{In-Some}
use Rattle.search.proofs.send_all.Goals as goal

-- where a carrier that goes is known
goes : (c : In-Some) → OneGoes (track_in c.args.track.now) c.args.follows.now c.args.order.now c.args.position.now c.args.plan.now
    c.rounds.free c.rounds.position c.rounds.plan c.rounds.planned c.rounds.searched
    (words_in c.first_to_go-round.new.queue) (froms_in c.first_to_go-round.new.queue) c.in-Some.field-0 c.first_to_go-round.result.searched
goes c = record { underway = c.rounds.invariant; sought = sought_at _ c.in-Some.is c.first_to_go-round.ensures }

pub rounds-init : goal.rounds-init
rounds-init c = underway_starts c.requires

pub overflow_add-searched : goal.overflow_add-searched
overflow_add-searched c = omega (arith, underway_few c.rounds.invariant c.first_to_go-round.ensures)

pub returns-in_default : goal.returns-in_default
returns-in_default c = underway_nobody c.rounds.invariant (sought_at None c.in_default.is c.first_to_go-round.ensures)

pub write_entry-planned-requires : goal.write_entry-planned-requires
write_entry-planned-requires c =
    goes_entry (goes (goal.at.write_entry-planned-requires c).In-Some) _ _ (omega (arith, c.rounds.invariant.carriers_small c.in-Some.field-0.zone)) (omega arith)

pub rounds-smaller : goal.rounds-smaller
rounds-smaller c = goes_smaller (goes (goal.at.rounds-smaller c).In-Some)

pub rounds-preserved : goal.rounds-preserved
rounds-preserved c = goes_more (goes (goal.at.rounds-preserved c).In-Some) c.write_entry-planned.ensures c.write_entry-planned.auto.plan c.add_zone.ensures (omega arith)

-- `mover::zone_for` meets its contract: it gives the zone where the carrier stands.
-- The invariant: the first of the zones left that holds the carrier is the first of all (LookedTo). The measure is how many zones are left.
-- std's search gives the first place among those left; moved by how many were passed it is the first of all, which ZoneLaws says is that zone.
use Rattle.std.proofs.Common.{◌≡◌, ap, ◌∙◌, rules, tests}
use Rattle.std.specs.List.{position}
use Rattle.std.proofs.lemmas.Iterator.{YieldsList-from_slice}
use Rattle.std.proofs.lemmas.Iterator.Search.{position_from_yields_List}
use Rattle.mover.specs.MoveTried.{option_in}
use Rattle.mover.proofs.ZoneLaws.{is_of, looked_none, four_looked, found_in}
use Rattle.mover.proofs.zone_for.Goals.{After-position}
use Rattle.mover.proofs.zone_for.Goals as goal

pub loop-left-init : goal.loop-left-init
loop-left-init c = looked_none c.args.position.now c.args.carrier

pub loop-left-preserved : goal.loop-left-preserved
loop-left-preserved c = four_looked c.args.carrier c.loop-left.invariant c.in-len4-up.len_at_least c.if-here.false

pub overflow_sub-passed : goal.overflow_sub-passed
overflow_sub-passed c = c.loop-left.invariant.shorter

-- what std's search gives among the zones left
looked : (c : After-position) → c.position.result ≡ position (is_of c.args.position.now c.args.carrier) c.loop-left.left.now
looked c =
    let test = is_of c.args.position.now c.args.carrier in
    position_from_yields_List test _ _ c.position.result c.position.ensures.ran (YieldsList-from_slice c.loop-left.left.now (cc)) (λ x b q k. search (rules, tests))

pub returns-in_err-zone-clause-found : goal.returns-in_err-zone-clause-found
returns-in_err-zone-clause-found c =
    ap option_in c.from_residual.ensures
    ∙ found_in c.args.carrier c.loop-left.invariant (looked (goal.at.returns-in_err-zone-clause-found c).After-position) c.in_err-zone.was

pub returns-clause-found : goal.returns-clause-found
returns-clause-found c = found_in c.args.carrier c.loop-left.invariant (looked (goal.at.returns-clause-found c).After-position) c.in_ok-zone.was

-- `mover::carry_out` meets its contract: each return is a case of the move that the pair says.
-- Each is a law of OneMove, by the tests that led to it and the contracts of `zone_for`, `leaving` and `may_go_from`.
use mathlib.Core.Path.{sym}
use Rattle.mover.proofs.OneMove.{OutIn, out_in, zero_stays, missing_stays, home_stays, home_goes, into_stays, into_goes}
use Rattle.mover.proofs.carry_out.Goals.{In-Some}
use Rattle.mover.proofs.carry_out.Goals as goal

-- past the look for its zone the carrier is out
out : (c : In-Some) → OutIn c.args.position.now c.args.carrier c.in-Some.zone
out c = out_in c.if-number-eq0.false (sym c.in-Some.ensures.found)

pub returns-then-number-eq0 : goal.returns-then-number-eq0
returns-then-number-eq0 c = zero_stays _ _ _ _ c.if-number-eq0.true

pub returns-in_default : goal.returns-in_default
returns-in_default c = missing_stays _ _ _ _ (sym c.in_default.ensures.found)

pub returns-then-entered-eq-HOME : goal.returns-then-entered-eq-HOME
returns-then-entered-eq-HOME c =
    home_goes _ c.requires.bounded.laid.once (out (goal.at.returns-then-entered-eq-HOME c).In-Some) c.leaving-point.ensures c.if-entered-eq-HOME.true c.if-elsewhere.false

pub returns-then-elsewhere : goal.returns-then-elsewhere
returns-then-elsewhere c =
    home_stays _ c.requires.bounded.laid.once (out (goal.at.returns-then-elsewhere c).In-Some) c.leaving-point.ensures c.if-entered-eq-HOME.true c.if-elsewhere.true

pub returns-then-not-may_go_from : goal.returns-then-not-may_go_from
returns-then-not-may_go_from c =
    into_stays _ c.requires.bounded.laid.once (out (goal.at.returns-then-not-may_go_from c).In-Some) c.leaving-point.ensures c.if-entered-eq-HOME.false c.may_go_from.ensures c.if-not-may_go_from.true

pub returns : goal.returns
returns c =
    into_goes _ c.requires.bounded.laid.once (out (goal.at.returns c).In-Some) c.leaving-point.ensures c.if-entered-eq-HOME.false c.may_go_from.ensures c.if-not-may_go_from.false

-- `check` gives rows 6 and 7: the first of them that holds.
-- The invariant: no zone before z is bad, the table has the low bytes of their carriers, and it is known whether one of them stood before.
use mathlib.Core.Path.{sym, ◌∙◌}
use native.Mathlib.Omega.{arith}
use Rattle.model.specs.Reading.{bad_zone}
use borrow.Author.Count.{below_more}
use Rattle.board.proofs.Turns.{met, none_met, all_met}
use Rattle.board.proofs.Repeats.{seen_next, new_carrier, repeated_free, repeated_new, repeated_met, again_none, again_met}
use Rattle.board.proofs.Order.{row_6, row_7, neither_6_7}
use Rattle.board.proofs.zones.check.Goals.{In-loop-z}
use Rattle.board.proofs.zones.check.Goals as goal
use Rattle.board.proofs.zones.check.Goals.{then-carrier-ne0+then-seen-low+then-stood_before, else-carrier-ne0-via-then-carrier-ne0+then-seen-low+else-stood_before, else-carrier-ne0, else-carrier-ne0-via-then-carrier-ne0+else-seen-low, else-carrier-ne0-via-else-carrier-ne0}

pub returns-then-bad : goal.returns-then-bad
returns-then-bad c = row_6 _ (met (bad_zone _) c.byte-zones.ensures c.loop-z-test.true (sym c.bad.ensures ∙ c.if-bad.true))

pub loop-z-preserved : goal.loop-z-preserved
loop-z-preserved c =
    let zone = c.zone_at-carrier.ensures in
    let inv = c.loop-z.invariant in (
      below_more _ _ inv.0 (sym c.bad.ensures ∙ c.if-bad.false),
      seen_next inv.1 zone,
      elim c.if-carrier-ne0.branch [
        | then-carrier-ne0+then-seen-low+then-stood_before w ↦ w.repeated-is ∙ again_met _ _ (repeated_met zone w.if-carrier-ne0.true (sym w.if-stood_before.true ∙ w.stood_before.ensures))
        | else-carrier-ne0 w ↦ w.repeated-is ∙ again_none _ _ inv.2 (elim w.else-carrier-ne0.branch [
          | else-carrier-ne0-via-then-carrier-ne0+then-seen-low+else-stood_before v ↦ repeated_new zone (sym v.if-stood_before.false ∙ v.stood_before.ensures)
          | else-carrier-ne0-via-then-carrier-ne0+else-seen-low v ↦ repeated_new zone (new_carrier inv.1 zone v.if-seen-low.false)
          | else-carrier-ne0-via-else-carrier-ne0 v ↦ repeated_free zone v.if-carrier-ne0.false
        ])
      ],
    )

pub returns-then-repeated : goal.returns-then-repeated
returns-then-repeated c =
    let zones = c.byte-zones.ensures in
    let inv = c.loop-z.invariant in
    let all = c.loop-z-test.false in
    row_7 _ (none_met (bad_zone _) zones inv.0 all) (sym c.if-repeated.true ∙ all_met _ zones (omega arith) all inv.2)

pub returns : goal.returns
returns c =
    let zones = c.byte-zones.ensures in
    let inv = c.loop-z.invariant in
    let all = c.loop-z-test.false in
    neither_6_7 _ (none_met (bad_zone _) zones inv.0 all) (sym c.if-repeated.false ∙ all_met _ zones (omega arith) all inv.2)

-- `parsed::key` meets its contract: 10, 11, or what was sent home and who is out then.
-- From the contracts of `count_out`, `send_home`, `list_out` and `verdict_where`; each return is a law of KeyGivenLaws.
use mathlib.Core.Path.{refl}
use native.Mathlib.Omega.{arith}
use Rattle.exam.proofs.ReadyLaws.{room_small}
use Rattle.exam.proofs.KeyGivenLaws.{given_10, given_11, Enough, enough, last_listable, given_key, given_summary, given_searched, given_position}
use Rattle.exam.proofs.parsed.key.Goals.{After-count_out-out, Else-list-out}
use Rattle.exam.proofs.parsed.key.Goals as goal

-- past rows 10 and 11
room : (c : Else-list-out) → Enough c.args.track.now.head.zones c.args.position.now c.args.plan.now c.args.list.now
room c = enough c.count_out-out.ensures c.if-plan-out.false c.if-list-out.false

pub overflow_mul-out : goal.overflow_mul-out
overflow_mul-out c = omega (arith, room_small c.requires c.count_out-out.ensures)

pub returns-then-plan-out : goal.returns-then-plan-out
returns-then-plan-out c = record { key_given = given_10 _ _ _ _ c.count_out-out.ensures c.if-plan-out.true; summary_value = refl; searched_value = refl; position_after = refl }

pub returns-then-list-out : goal.returns-then-list-out
returns-then-list-out c = record { key_given = given_11 _ _ _ _ c.count_out-out.ensures c.if-plan-out.false c.if-list-out.true; summary_value = refl; searched_value = refl; position_after = refl }

pub list_out-blocked-requires : goal.list_out-blocked-requires
list_out-blocked-requires c =
    last_listable (room (goal.at.list_out-blocked-requires c).Else-list-out) c.send_home-sent.ensures c.requires

pub returns : goal.returns
returns c =
    let past = room (goal.at.returns c).Else-list-out in
    let sent = c.send_home-sent.ensures in
    let listed = c.list_out-blocked.ensures in
    let said = c.verdict_where.ensures in
    record {
      key_given = given_key past sent listed said;
      summary_value = given_summary past sent listed said c.count_out-out.ensures;
      searched_value = given_searched past sent listed said;
      position_after = given_position past sent listed said c.requires;
    }

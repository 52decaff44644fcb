-- `marker::mark_entry` meets its contract: each return is a case of the entry's number.
-- Each is a law of EntryLaws, by the tests that led to it and the contracts of `stands`, `still_out` and `mark_route`.
use mathlib.Core.Bool.{not}
use mathlib.Core.Path.{ap, refl}
use Rattle.std.proofs.lemmas.Result.{err_from_is_err_and}
use Rattle.marker.proofs.EntryLaws.{WholeEntry, short_fails, empty_fails, past_fails, out_fails, standing_fails, route_fails, route_passes}
use Rattle.marker.proofs.mark_entry.Goals.{After-stands}
use Rattle.marker.proofs.mark_entry.Goals as goal

-- past the tests of its count the entry is whole
whole : (c : After-stands) → WholeEntry c.args.words.now c.in-Some.own.now c.in-Some.rest.now
whole c = record { two = c.in-len2-up.len_at_least; parts = c.in-Some.ensures.cases; some = c.in-len1-up.len_at_least }

pub returns-in_default : goal.returns-in_default
returns-in_default c = short_fails c.requires.1 c.in_default.len_below

pub returns-in_default-split_at_checked : goal.returns-in_default-split_at_checked
returns-in_default-split_at_checked c = past_fails c.in-len2-up.len_at_least c.in_default-split_at_checked.ensures.cases

pub returns-in_default-own : goal.returns-in_default-own
returns-in_default-own c = empty_fails c.in-len2-up.len_at_least c.in-Some.ensures.cases c.in_default-own.len_below

pub returns-then-still_out : goal.returns-then-still_out
returns-then-still_out c =
    standing_fails (whole (goal.at.returns-then-still_out c).After-stands) c.still_out.ensures c.if-still_out.true c.stands.ensures (ap not c.if-not-stands.true)

pub returns-then-not-stands : goal.returns-then-not-stands
returns-then-not-stands c = out_fails (whole (goal.at.returns-then-not-stands c).After-stands) c.still_out.ensures c.if-still_out.false

pub returns-in_err-mark_route : goal.returns-in_err-mark_route
returns-in_err-mark_route c =
    let p = err_from_is_err_and c.from_residual.result c.from_residual.ensures.1 in
    rw (p.1, p.2) (route_fails (whole (goal.at.returns-in_err-mark_route c).After-stands) c.requires.0 c.stands.ensures (ap not c.if-not-stands.false) c.in_err-mark_route.ensures)

pub returns : goal.returns
returns c =
    route_passes (whole (goal.at.returns c).After-stands) c.requires.0 c.stands.ensures (ap not c.if-not-stands.false) refl c.in_ok-mark_route.ensures

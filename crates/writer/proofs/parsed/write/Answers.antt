-- `writer::parsed::write` meets its contract: 39 by its three tests, else what the test and the store give.
-- Each return is a law of Writing, by the tests that led to it.
use mathlib.Core.Path.{sym, ◌∙◌}
use native.Mathlib.Omega.{arith}
use Rattle.model.specs.Track.{track_in}
use Rattle.faircopy.proofs.Words.{limited_of}
use Rattle.writer.proofs.Writing.{few_zones, draftable_of, two_by_words, copy_count, other_size, word_over, short_room, tested_given}
use Rattle.writer.proofs.parsed.write.Goals as goal

pub returns-then-any_from : goal.returns-then-any_from
returns-then-any_from c = word_over _ _ _ (sym c.any_from.ensures ∙ c.if-any_from.true)

pub zone_from-requires : goal.zone_from-requires
zone_from-requires c = omega (arith, few_zones c.requires)

pub returns-then-copy-zone_from : goal.returns-then-copy-zone_from
returns-then-copy-zone_from c =
    let s = c.args in
    let counted = copy_count (track_in s.track.now) s.sheet.now (c.any_from-wide.ensures ∙ two_by_words s.sheet.now) c.zone_from.ensures in
    short_room _ _ _ (omega (arith, counted, c.if-copy-zone_from.true))

pub invariant_of-contents : goal.invariant_of-contents
invariant_of-contents c =
    record { draftable = draftable_of c.requires c.if-sheet-track.false (limited_of c.args.sheet.now (sym c.any_from.ensures ∙ c.if-any_from.false)) }

pub test_and_store-requires : goal.test_and_store-requires
test_and_store-requires c =
    let s = c.args in
    let track = c.requires in
    let wide = c.any_from-wide.ensures ∙ two_by_words s.sheet.now in
    record {
      track = track;
      version = wide;
      room = omega (arith, copy_count (track_in s.track.now) s.sheet.now wide c.zone_from.ensures, c.if-copy-zone_from.false);
    }

pub returns : goal.returns
returns c =
    let s = c.args in
    let wide = c.any_from-wide.ensures ∙ two_by_words s.sheet.now in
    tested_given _ _ _ c.if-sheet-track.false (sym c.any_from.ensures ∙ c.if-any_from.false)
    (omega (arith, copy_count (track_in s.track.now) s.sheet.now wide c.zone_from.ensures, c.if-copy-zone_from.false)) c.test_and_store.ensures

pub returns-then-sheet-track : goal.returns-then-sheet-track
returns-then-sheet-track c = other_size _ _ _ c.if-sheet-track.true

-- `writer::draft::entry` meets its contract: the entry of one zone stands at its place.
-- What is stored there is the definition's entry, by the version.
use Rattle.model.specs.Track.{track_in}
use Rattle.writer.proofs.Drafting.{wide_bytes, narrow_bytes}
use Rattle.writer.proofs.draft.entry.Goals as goal

pub returns-then-contents : goal.returns-then-contents
returns-then-contents c = rw (← wide_bytes (track_in c.args.contents.now.track) c.args.contents.now.sheet.now c.args.z c.if-contents.true, ← c.zone_from-from.ensures) c.from_place.ensures

pub returns-else-contents : goal.returns-else-contents
returns-else-contents c = rw (← narrow_bytes (track_in c.args.contents.now.track) c.args.contents.now.sheet.now c.args.z c.if-contents.false, ← c.zone_from-from.ensures) c.from_place-else-contents.ensures

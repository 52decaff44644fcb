-- `writer::draft::entries` meets its contract: the entries of all zones stand one after another.
-- The invariant: those of the first z zones are.
use Rattle.model.specs.Track.{track_in}
use Rattle.writer.proofs.Drafting.{Drafting}
use Rattle.writer.proofs.draft.entries.Given as goal

abbrev pub invariant-loop-z : goal.invariant-loop-z
invariant-loop-z l = Drafting l.contents.wide (track_in l.contents.track) l.contents.sheet.now l.initial.draft l.draft l.z

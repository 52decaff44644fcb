-- `writer::draft::entries` meets its contract: the entries of all zones stand one after another.
-- The invariant: those of the first z zones are.
use native.Mathlib.Omega.{arith}
use Rattle.writer.proofs.Drafting.{drafting_starts, drafting_on, drafting_ends}
use Rattle.writer.proofs.draft.entries.Goals as goal

pub loop-z-init : goal.loop-z-init
loop-z-init c = drafting_starts _ _ _ _

pub loop-z-preserved : goal.loop-z-preserved
loop-z-preserved c =
    drafting_on _ _ _ c.requires c.loop-z.invariant c.loop-z-test.true c.entry.ensures

pub returns : goal.returns
returns c = drafting_ends _ _ _ c.requires c.loop-z.invariant (omega arith)

-- `writer::draft::first_bytes` meets its contract: the six bytes of the head stand from the first place on.
-- Each number fits its byte, and L is two less than where a zone past the last would begin.
use mathlib.Core.Path.{◌∙◌}
use native.Mathlib.Omega.{arith}
use Rattle.writer.proofs.Drafting.{few_bytes, head_drafted}
use Rattle.writer.proofs.draft.first_bytes.Goals as goal

pub overflow_cast-first : goal.overflow_cast-first
overflow_cast-first c = record { fits = omega (arith, c.zone_from-said.ensures, few_bytes c.args.wide c.requires.0.zones_most) }

pub returns : goal.returns
returns c =
    c.from_start.ensures ∙ head_drafted c.args.head c.args.wide c.args.draft.now c.zone_from-said.ensures c.version.ensures

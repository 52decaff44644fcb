-- `writer::parsed::any_from` meets its contract: whether some word of the sheet is so high.
-- The chain tries each word.
use mathlib.Core.Path.{◌∙◌}
use lib.Dec.{leb}
use Rattle.std.proofs.Common.{rules, tests}
use Rattle.std.proofs.lemmas.Iterator.{YieldsList-from_slice}
use Rattle.std.proofs.lemmas.Iterator.Search.{any_from_yields_List}
use Rattle.board.proofs.Chains.{any_listed}
use Rattle.writer.proofs.parsed.any_from.Goals as goal

pub returns : goal.returns
returns c =
    any_from_yields_List (leb c.args.least) _ _ _ c.any.ensures.ran (YieldsList-from_slice c.args.sheet.now (cc)) (λ x b q k. search (rules, tests)) ∙
    any_listed (leb c.args.least) c.args.sheet.now

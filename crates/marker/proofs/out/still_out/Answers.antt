-- `marker::out::still_out` meets its contract: whether the carrier stands in a zone.
-- std's search through the position is the definition's, by `out_looked` of ScanLaws.
use Rattle.std.proofs.Common.{sym, ◌∙◌, rules, tests}
use lib.Dec.{eqb}
use Rattle.std.proofs.lemmas.Iterator.{YieldsList-from_slice}
use Rattle.std.proofs.lemmas.Iterator.Search.{any_from_yields_List}
use Rattle.model.specs.Position.{carrier_of}
use Rattle.marker.proofs.ScanLaws.{out_none, out_looked}
use Rattle.marker.proofs.out.still_out.Goals as goal

pub returns-then-carrier-ne0 : goal.returns-then-carrier-ne0
returns-then-carrier-ne0 c =
    any_from_yields_List (λ v. eqb (carrier_of v) c.args.carrier) _ _ _ c.any.ensures.ran (YieldsList-from_slice c.args.position.now (cc)) (λ x b q k. search (rules, tests))
    ∙ sym (out_looked _ _ c.if-carrier-ne0.true)

pub returns-else-carrier-ne0 : goal.returns-else-carrier-ne0
returns-else-carrier-ne0 c = search rules ∙ sym (out_none _ _ c.if-carrier-ne0.false)

-- `marker::out::mark_end` meets its contract: a carrier is still out, or none is.
-- std's search through the position decides the definition, by `end_found` of ScanLaws.
use Rattle.std.proofs.Common.{◌≡◌, rules, tests, not}
use lib.Dec.{eqb}
use Rattle.std.specs.List.{list_any}
use Rattle.std.proofs.lemmas.Iterator.{YieldsList-from_slice}
use Rattle.std.proofs.lemmas.Iterator.Search.{any_from_yields_List}
use Rattle.model.specs.Position.{carrier_of}
use Rattle.marker.proofs.ScanLaws.{end_found}
use Rattle.marker.proofs.out.mark_end.Goals.{After-any}
use Rattle.marker.proofs.out.mark_end.Goals as goal

any_held : (c : After-any) → c.any.result ≡ list_any (λ v. not (eqb (carrier_of v) 0)) c.args.position.now
any_held c = any_from_yields_List (λ v. not (eqb (carrier_of v) 0)) _ _ _ c.any.ensures.ran (YieldsList-from_slice c.args.position.now (cc)) (λ x b q k. search (rules, tests))

pub returns-then-any : goal.returns-then-any
returns-then-any c = end_found _ (any_held (goal.at.returns-then-any c).After-any) c.if-any.true

pub returns : goal.returns
returns c = end_found _ (any_held (goal.at.returns c).After-any) c.if-any.false

-- `sheet::mark_claim` meets its contract: the collapse writes the key's list, and the claim is held against it.
-- At most 96 are out, so the list has room for all; each return is a law of MarkLaws, by the count and what `same_claim` gives.
use Rattle.std.proofs.Common.{ℕ, arith}
use lib.ListN.{length-replicate}
use Rattle.exam.proofs.ReadyLaws.{few_out}
use Rattle.exam.proofs.MarkLaws.{claim_false, claim_marked}
use Rattle.exam.proofs.sheet.mark_claim.Goals as goal

pub list_left-listed-requires : goal.list_left-listed-requires
list_left-listed-requires c = (c.requires, omega (arith, few_out c.requires, length-replicate {A = ℕ} 96 0))

pub returns-then-nobody : goal.returns-then-nobody
returns-then-nobody c = claim_false c.requires c.list_left-listed.ensures.collapse_given (omega (arith, few_out c.requires, length-replicate {A = ℕ} 96 0)) _ c.if-nobody.true

pub returns-then-not-same_claim : goal.returns-then-not-same_claim
returns-then-not-same_claim c =
    claim_marked c.requires c.list_left-listed.ensures.collapse_given (omega (arith, few_out c.requires, length-replicate {A = ℕ} 96 0)) _ c.if-nobody.false c.same_claim.ensures c.if-not-same_claim.true

pub returns : goal.returns
returns c =
    claim_marked c.requires c.list_left-listed.ensures.collapse_given (omega (arith, few_out c.requires, length-replicate {A = ℕ} 96 0)) _ c.if-nobody.false c.same_claim.ensures c.if-not-same_claim.false

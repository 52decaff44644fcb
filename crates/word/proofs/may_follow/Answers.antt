-- `may_follow` meets its contract: whether the word is in another zone, and one free to the carrier.
-- On each way through the code the tests of the definition are replaced by what was found.
use borrow.Author.Tests.{eq-eqb, ne_eqb}
use Rattle.word.proofs.may_follow.Goals as goal

pub returns-then-v-w : goal.returns-then-v-w
returns-then-v-w c = simp (eq-eqb _ _ c.if-v-w.true)

pub returns-then-held-eq0 : goal.returns-then-held-eq0
returns-then-held-eq0 c = simp (ne_eqb _ _ c.if-v-w.false, eq-eqb _ _ c.if-held-eq0.true)

pub returns : goal.returns
returns c = simp (ne_eqb _ _ c.if-v-w.false, ne_eqb _ _ c.if-held-eq0.false)

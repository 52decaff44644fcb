-- `replay::parsed::replay` meets its contract: 36, 37, or the answer of the moves on the sheet.
-- Each return is a law of ReplayLaws, by the tests that led to it and the contract of `carry_out_all`.
use Rattle.std.proofs.Common.{rules}
use Rattle.replay.proofs.ReplayLaws.{short_given, odd_given, moves_given}
use Rattle.replay.proofs.parsed.replay.Goals as goal

pub returns-then-short : goal.returns-then-short
returns-then-short c = short_given _ _ _ _ c.if-short.true

pub returns-then-odd : goal.returns-then-odd
returns-then-odd c = odd_given _ _ _ _ c.if-short.false c.if-odd.true

pub returns : goal.returns
returns c = moves_given _ _ c.requires (search rules) c.if-short.false c.if-odd.false c.carry_out_all.ensures

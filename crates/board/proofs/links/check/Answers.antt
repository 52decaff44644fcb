-- `check` gives rows 8 and 9: the first of them that holds.
-- The sets that the calls give are those of the rows.
use mathlib.Core.Path.{◌≡◌, sym, ◌∙◌, ap}
use mathlib.Core.Bool.{not, false}
use lib.Dec.{eqb}
use borrow.Author.Tests.{eq-eqb, ne_eqb}
use Rattle.model.specs.Lists.{any_of, numbers_below}
use Rattle.model.specs.Reading.{points_said, under_two, apart}
use Rattle.board.proofs.Doubling.{under_two_none, under_two_some}
use Rattle.board.proofs.Together.{apart_row}
use Rattle.board.proofs.Order.{row_8, row_9, neither_8_9}
use Rattle.board.proofs.links.check.Goals.{After-size, Else-under_two-ne0}
use Rattle.board.proofs.links.check.Goals as goal

-- no point of row 8
each_two : (c : Else-under_two-ne0) → any_of (under_two c.args.bytes.now) (numbers_below (points_said c.args.bytes.now)) ≡ false
each_two c =
    under_two_none c.requires.1 c.add_ways-twice.ensures.1 c.add_ways-twice.type_inv c.byte-points.ensures c.byte-home.ensures c.all.ensures c.with.ensures c.minus-under_two.ensures c.if-under_two-ne0.false

-- row 9 by the points that home reaches
apart_is : (c : After-size) → not (eqb c.size.result c.byte-points.result) ≡ apart c.args.bytes.now
apart_is c =
    apart_row c.requires.1 c.add_ways-twice.ensures.0 c.byte-home.ensures c.grow-reached.ensures c.byte-points.ensures c.size.ensures

pub returns-then-under_two-ne0 : goal.returns-then-under_two-ne0
returns-then-under_two-ne0 c =
    row_8 _ (under_two_some c.requires.1 c.add_ways-twice.ensures.1 c.add_ways-twice.type_inv c.byte-points.ensures c.byte-home.ensures c.all.ensures c.with.ensures c.minus-under_two.ensures c.if-under_two-ne0.true)

pub returns-then-size-points : goal.returns-then-size-points
returns-then-size-points c = row_9 _ (each_two (goal.at.returns-then-size-points c).Else-under_two-ne0) (sym (apart_is (goal.at.returns-then-size-points c).After-size) ∙ ap not (ne_eqb _ _ c.if-size-points.true))

pub returns : goal.returns
returns c = neither_8_9 _ (each_two (goal.at.returns c).Else-under_two-ne0) (sym (apart_is (goal.at.returns c).After-size) ∙ ap not (eq-eqb _ _ c.if-size-points.false))

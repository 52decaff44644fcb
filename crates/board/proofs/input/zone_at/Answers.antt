-- `zone_at` gives what the definition reads of a zone.
-- Each byte lies inside the board, and the version tells how many a carrier has.
use Rattle.board.proofs.ZoneBytes.{zone_narrow, zone_wide}
use Rattle.board.proofs.input.zone_at.Goals as goal

pub returns-then-wide : goal.returns-then-wide
returns-then-wide c =
    zone_wide c.requires c.zone_from-from.ensures c.byte-a.ensures c.byte-b.ensures c.byte-first.ensures c.byte-next.ensures
    c.if-wide.true c.byte-heading.ensures

pub returns : goal.returns
returns c =
    zone_narrow c.requires c.zone_from-from.ensures c.byte-a.ensures c.byte-b.ensures c.byte-first.ensures c.byte-next.ensures
    c.if-wide.false

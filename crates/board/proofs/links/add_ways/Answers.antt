-- `add_ways` adds the ways of all words, and gives the points where two or more start.
-- The invariant: both are done for the words of the first z zones.
use Prim.Native.Nat.{◌<◌}
use native.Mathlib.Omega.{arith}
use Rattle.board.proofs.Doubling.{starts_first, starts_zone}
use Rattle.board.proofs.Together.{ways_first, ways_zone, added_size, first_in, second_in}
use Rattle.board.proofs.links.add_ways.Goals.{After-zone_at-said}
use Rattle.board.proofs.links.add_ways.Goals as goal

-- both ends of the zone are points
first : (c : After-zone_at-said) → c.zone_at-said.result.a < 64
first c =
    first_in c.requires.0.1 c.byte-zones.ensures c.loop-z-test.true c.zone_at-said.ensures

second : (c : After-zone_at-said) → c.zone_at-said.result.b < 64
second c =
    second_in c.requires.0.1 c.byte-zones.ensures c.loop-z-test.true c.zone_at-said.ensures

pub loop-z-init : goal.loop-z-init
loop-z-init c = (ways_first c.args.bytes.now c.requires.1, starts_first _)

pub add_second-twice-requires : goal.add_second-twice-requires
add_second-twice-requires c = first (goal.at.add_second-twice-requires c).After-zone_at-said

pub with-once-requires : goal.with-once-requires
with-once-requires c = first (goal.at.with-once-requires c).After-zone_at-said

pub add_second-twice-requires-in-loop-z : goal.add_second-twice-requires-in-loop-z
add_second-twice-requires-in-loop-z c = second (goal.at.add_second-twice-requires-in-loop-z c).After-zone_at-said

pub with-once-requires-in-loop-z : goal.with-once-requires-in-loop-z
with-once-requires-in-loop-z c = second (goal.at.with-once-requires-in-loop-z c).After-zone_at-said

pub add_way-requires : goal.add_way-requires
add_way-requires c = (omega (arith, c.loop-z.invariant.0.long, first (goal.at.add_way-requires c).After-zone_at-said), second (goal.at.add_way-requires c).After-zone_at-said)

pub add_way-requires-in-loop-z : goal.add_way-requires-in-loop-z
add_way-requires-in-loop-z c =
    let zone = c.zone_at-said.result in
    let kept = added_size c.loop-z.ways zone.a zone.b c.loop-z.invariant.0.long c.add_way.ensures in
    (omega (arith, kept, second (goal.at.add_way-requires-in-loop-z c).After-zone_at-said), first (goal.at.add_way-requires-in-loop-z c).After-zone_at-said)

pub loop-z-preserved : goal.loop-z-preserved
loop-z-preserved c =
    let inv = c.loop-z.invariant in (
      ways_zone inv.0 c.zone_at-said.ensures (first (goal.at.loop-z-preserved c).After-zone_at-said) (second (goal.at.loop-z-preserved c).After-zone_at-said) c.add_way.ensures c.add_way-in-loop-z.ensures,
      starts_zone inv.1 c.zone_at-said.ensures
          c.with-once.ensures c.add_second-twice.ensures c.with-once-in-loop-z.ensures c.add_second-twice-in-loop-z.ensures,
    )

-- `write_entry` meets its contract: the carrier, the count of words and the words are stored from place k on.
-- From the contracts of `route_length` and `write_route`; the entry laws of Routing: the room is enough.
use native.Mathlib.Omega.{arith}
use Rattle.queue.proofs.Routing.{entry_few, entry_room, entry_fits, entry_part}
use Rattle.queue.proofs.route.write_entry.Goals as goal

pub overflow_cast-plan-2 : goal.overflow_cast-plan-2
overflow_cast-plan-2 c = omega (arith, entry_few c.requires c.route_length-n.ensures, c.requires.few)

pub overflow_add-next-2 : goal.overflow_add-next-2
overflow_add-next-2 c = omega (arith, entry_room c.requires c.route_length-n.ensures, c.well_formed)

pub slice_bounds-write_route-end : goal.slice_bounds-write_route-end
slice_bounds-write_route-end c = (entry_fits c.requires c.route_length-n.ensures _ _).1

pub write_route-requires : goal.write_route-requires
write_route-requires c = (c.requires.readable, entry_part c.requires c.route_length-n.ensures _ _)

-- `first_to_go` meets its contract: it finds the first carrier that can go home and its route in the queue, or that none can, and counts the words
-- that the tries reach.
-- Two loops: the carriers left to try decide who goes (laws of Trying), a search looks at one place after another (laws of Looks). Its measure is
-- how many words are left.
use mathlib.Core.Path.{refl, sym, ◌∙◌}
use native.Mathlib.Omega.{arith}
use Rattle.model.specs.Track.{track_in}
use Rattle.search.proofs.Looks.{looking_few, looking_home, looking_on}
use Rattle.search.proofs.Trying.{nobody_goes, Next, next_inside, HeldNext, turn_looks, turn_found, turn_few, turn_past, turn_goes, turn_inside, turn_offers}
use Rattle.search.proofs.first_to_go.Goals.{In-carriers, Else-gone, then-leaving-track, else-leaving-track}
use Rattle.search.proofs.first_to_go.Goals as goal

-- where a carrier is left to try
next : (c : In-carriers) → Next (track_in c.args.track.now) c.args.position.now c.args.follows.now c.args.free.now c.args.order.now c.carriers.searched c.carriers.zone-index
next c = record { seeking = c.requires; tried = c.carriers.invariant; another = c.carriers-test.true }

-- where a held zone's turn begins
turn : (c : Else-gone) → HeldNext (track_in c.args.track.now) c.args.position.now c.args.follows.now c.args.free.now c.args.order.now c.carriers.searched c.carriers.zone-index
turn c = record { next = record { seeking = c.requires; tried = c.carriers.invariant; another = c.carriers-test.true }; held = c.if-gone.false }

pub offset_bounds-position-zone : goal.offset_bounds-position-zone
offset_bounds-position-zone c = omega (arith, next_inside (next (goal.at.offset_bounds-position-zone c).In-carriers), c.well_formed)

pub bounds-position-zone : goal.bounds-position-zone
bounds-position-zone c = next_inside (next (goal.at.bounds-position-zone c).In-carriers)

pub loop-place-init : goal.loop-place-init
loop-place-init c = (turn_looks (turn (goal.at.loop-place-init c).Else-gone) c.reverse.ensures c.add.ensures (omega arith) c.start.ensures, refl)

-- at the queue's end
pub overflow_cast-searched : goal.overflow_cast-searched
overflow_cast-searched c = omega (arith, turn_found (turn (goal.at.overflow_cast-searched c).Else-gone) c.loop-place.invariant.0)

pub overflow_add-searched : goal.overflow_add-searched
overflow_add-searched c =
    omega (arith, turn_few (turn (goal.at.overflow_add-searched c).Else-gone) c.loop-place.invariant.0 c.if-place-queue.true, c.loop-place.invariant.1)

pub carriers-preserved : goal.carriers-preserved
carriers-preserved c =
    turn_past (turn (goal.at.carriers-preserved c).Else-gone) (omega (arith, c.loop-place.invariant.1)) c.if-place-queue.true (rw c.in_default.is at c.loop-place.invariant.0)

pub returns-then-place-queue : goal.returns-then-place-queue
returns-then-place-queue c =
    turn_goes (turn (goal.at.returns-then-place-queue c).Else-gone) (omega (arith, c.loop-place.invariant.1)) c.if-place-queue.true (rw c.in-Some.is at c.loop-place.invariant.0)

-- where a place is left to look at
pub word-w-requires : goal.word-w-requires
word-w-requires c = (omega arith, turn_inside (turn (goal.at.word-w-requires c).Else-gone) c.loop-place.invariant.0 c.if-place-queue.false)

pub overflow_add-place : goal.overflow_add-place
overflow_add-place c = omega (arith, looking_few c.loop-place.invariant.0 c.if-place-queue.false, c.requires.tables.few)

-- at a place that leaves elsewhere
pub offer_next-requires : goal.offer_next-requires
offer_next-requires c = (omega arith, rw c.word-w.ensures (turn_offers (turn (goal.at.offer_next-requires c).Else-gone) c.loop-place.invariant.0 c.if-place-queue.false))

-- after either
pub loop-place-smaller : goal.loop-place-smaller
loop-place-smaller c = omega (arith, looking_few c.loop-place.invariant.0 c.if-place-queue.false)

pub loop-place-preserved : goal.loop-place-preserved
loop-place-preserved c =
    let looking = c.loop-place.invariant.0 in
    let left = c.if-place-queue.false in
    elim c.if-leaving-track.branch [
      | then-leaving-track w ↦ (
        rw (w.queue-is, w.enterable-is, w.arrival-is, w.or-arrival.ensures)
            (looking_home looking left (rw c.word-w.ensures at (sym c.leaving.ensures ∙ w.if-leaving-track.true))),
        c.loop-place.invariant.1,
      )
      | else-leaving-track w ↦ (
        rw (w.queue-is, w.enterable-is, w.arrival-is)
            (looking_on looking left (λ e. w.if-leaving-track.false (c.leaving.ensures ∙ rw c.word-w.ensures e))
            c.requires.tables (rw c.word-w.ensures at w.offer_next.ensures) w.offer_next.auto.enterable),
        c.loop-place.invariant.1,
      )
    ]

pub returns : goal.returns
returns c = nobody_goes c.requires c.carriers.invariant c.carriers-test.false

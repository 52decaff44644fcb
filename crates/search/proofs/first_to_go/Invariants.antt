-- `first_to_go` meets its contract: it finds the first carrier that can go home and its route in the queue, or that none can, and counts the words
-- that the tries reach.
-- Two loops: the carriers left to try decide who goes (laws of Trying), a search looks at one place after another (laws of Looks). Its measure is
-- how many words are left.
use Prim.Native.Nat.{◌*◌, ◌-◌, ◌/◌}
use mathlib.Core.Path.{◌≡◌}
use Rattle.model.specs.Track.{track_in}
use Rattle.queue.specs.Queue.{words_in, froms_in}
use Rattle.search.proofs.Looks.{Looking}
use Rattle.search.proofs.Trying.{Tried}
use Rattle.search.proofs.first_to_go.Given as goal

abbrev pub invariant-loop-place : goal.invariant-loop-place
invariant-loop-place l =
    Looking (track_in l.track) l.position (l.held / 2) l.standing (words_in l.queue) (froms_in l.queue) l.enterable l.queue.count l.place l.arrival ×
    (l.searched ≡ l.initial.searched)

abbrev pub decreases-loop-place : goal.decreases-loop-place
decreases-loop-place l = 2 * l.track.head.zones - l.place

abbrev pub invariant-carriers : goal.invariant-carriers
invariant-carriers l = Tried (track_in l.track) l.position l.order l.searched l.zone-index

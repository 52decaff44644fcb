-- What document 02 says of a turning loop on a track (request c). Each is a sentence that is proved, in proofs/LoopLaws.antt.
use Rattle.std.specs.Prelude.{ℕ, ◌+◌, ◌*◌, ◌<◌, ◌≡◌, length, take, drop, eqb}
use Rattle.model.specs.Lists.{how_many}
use Rattle.model.specs.Track.{Track, TurningLoop, zone_of, start, leave}

-- "leaves at its point with either heading": each of its words leaves where it starts
abbrev pub LoopLeaves : Type 0
LoopLeaves = (t : Track) (w : ℕ) → TurningLoop t (zone_of w) → leave t w ≡ start t w

-- "counts twice toward the two zones of its point": its ends add two to what row 8 counts there; the rest is what the ends of the zones before and
-- after it add
abbrev pub LoopCountsTwice : Type 0
LoopCountsTwice =
    (t : Track) → length t.ends ≡ 2 * t.zones → (z : ℕ) → z < t.zones → TurningLoop t z →
    let here = eqb (start t (2 * z)) in
    how_many here t.ends ≡ how_many here (take (2 * z) t.ends) + (2 + how_many here (drop (2 * z + 2) t.ends))

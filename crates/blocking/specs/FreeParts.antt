-- What documents 01 and 02 say of the free parts and of the collapse, over every position laid on a track. Each is a sentence that is proved, in
-- proofs/Loops.antt and SameList.antt.
use Rattle.std.specs.Prelude.{ℕ, ◌*◌, ◌<◌, ◌≡◌, true, ◌↔◌}
use Rattle.model.specs.Track.{Track, TurningLoop, Linked, start}
use Rattle.model.specs.Position.{Position, at}
use Rattle.model.specs.Labels.{label}
use Rattle.model.specs.Accepted.{Laid}
use Rattle.rules.specs.Key.{named}
use Rattle.rules.specs.Collapse.{free_parts, loop_in, left}

-- document 01: "A free part is a greatest connected set of points over free zones": two points are in one part, by their labels, exactly where they
-- are linked over free zones
abbrev pub FreePart : Type 0
FreePart = (t : Track) (p : Position) → Laid t p → (r s : ℕ) → r < t.points → s < t.points → (label (free_parts t p) r ≡ label (free_parts t p) s) ↔ Linked t (λ z. at p z ≡ 0) r s

-- document 02, request c: "A free part with such a zone holds a loop"
abbrev pub LoopInPart : Type 0
LoopInPart = (t : Track) (p : Position) → Laid t p → (z : ℕ) → z < t.zones → TurningLoop t z → at p z ≡ 0 → loop_in t p (free_parts t p) (label (free_parts t p) (start t (2 * z))) ≡ true

-- demand 3: "the collapse leaves the same list"
abbrev pub CollapseSame : Type 0
CollapseSame = (t : Track) (p : Position) → Laid t p → left t p ≡ named t p

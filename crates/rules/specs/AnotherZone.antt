-- A zone isn't entered again straight after itself, a turning loop neither (request c of document 02: "can't be entered again straight after
-- itself"): on a route, and by single moves. proofs/AnotherZone.antt shows it.
use Rattle.std.specs.Prelude.{ℕ, List, ◌∷◌, ◌++◌, ◌≡◌}
use Rattle.model.specs.Track.{Track, zone_of}
use Rattle.model.specs.Position.{Position, Stands}
use Rattle.rules.specs.Routes.{Route}
use Rattle.rules.specs.Tries.{Allowed, into}

-- no two words of a route that follow each other are in one zone
abbrev pub RoutesGoElsewhere : Type 0
RoutesGoElsewhere = (t : Track) (p : Position) (c w v : ℕ) (us vs : List ℕ) → Route t p c (us ++ w ∷ v ∷ vs) → zone_of v ≡ zone_of w → ⊥

-- a single move goes into another zone than the one where its carrier stands
abbrev pub MovesGoElsewhere : Type 0
MovesGoElsewhere = (t : Track) (p q : Position) (c u w : ℕ) → Stands p c u → Allowed t p (into c w) q → zone_of w ≡ zone_of u → ⊥

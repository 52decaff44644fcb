-- Walks from point to point by words of zones that pass, each another zone than the last.
use Rattle.std.specs.Prelude.{ℕ, ◌*◌, ◌<◌, List, [], ◌∷◌, ◌≡◌, Bool, true, ◌&&◌}
use Rattle.model.specs.Lists.{numbers_below, how_many}
use Rattle.model.specs.Track.{Track, zone_of, start, leave}

-- the next word, if any, is of another zone than w
abbrev pub AnotherZone : ℕ → List ℕ → Type 0
AnotherZone w [] = Unit {0}
AnotherZone w (v ∷ vs) = zone_of v ≡ zone_of w → ⊥

-- from point p to point q by words of zones that pass, each another zone than the last
pub data Walk (t : Track) (passes : ℕ → Bool) : ℕ → List ℕ → ℕ → Type 0 where
  stay : {p : ℕ} → Walk t passes p [] p
  go : {p q : ℕ} (w : ℕ) {ws : List ℕ} → w < 2 * t.zones → passes (zone_of w) ≡ true → start t w ≡ p → AnotherZone w ws → Walk t passes (leave t w) ws q → Walk t passes p (w ∷ ws) q

-- how many points are within
abbrev pub points_within : Track → (ℕ → Bool) → ℕ
points_within t within = how_many within (numbers_below t.points)

-- how many zones pass and start within
abbrev pub zones_within : Track → (ℕ → Bool) → (ℕ → Bool) → ℕ
zones_within t passes within = how_many (λ z. passes z && within (start t (2 * z))) (numbers_below t.zones)

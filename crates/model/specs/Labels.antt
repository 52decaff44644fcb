-- A label for each point; joining two points gives the one's label to all that share the other's. Points with one label form a part.
use Rattle.std.specs.Prelude.{ℕ, ◌*◌, Bool, cond, get_or, eqb}
use mathlib.Core.List.{List, map, foldl}
use Rattle.model.specs.Lists.{numbers_below, keep}
use Rattle.model.specs.Track.{Track, start, leave}

-- the label of a point
abbrev pub label : List ℕ → ℕ → ℕ
label ls p = get_or ls p 0

-- p and all that share its label get the label of q
unfoldable pub join_points : List ℕ → ℕ → ℕ → List ℕ
join_points ls p q = map (λ l. cond (eqb l (label ls p)) (label ls q) l) ls

-- the two ends of a zone joined
abbrev pub join_zone : Track → List ℕ → ℕ → List ℕ
join_zone t ls z = join_points ls (start t (2 * z)) (leave t (2 * z))

-- the ends of each zone that passes joined
unfoldable pub join_zones : Track → (ℕ → Bool) → List ℕ → List ℕ
join_zones t passes ls = foldl (join_zone t) ls (keep passes (numbers_below t.zones))

-- the parts over the zones that pass: each point starts as a part alone
unfoldable pub parts : Track → (ℕ → Bool) → List ℕ
parts t passes = join_zones t passes (numbers_below t.points)

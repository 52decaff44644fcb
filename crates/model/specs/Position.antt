-- A position: for each zone, free or which carrier stands in it with which heading. One number a zone: 0 free, else 2 × carrier + heading.
use Rattle.std.specs.Prelude.{ℕ, ◌+◌, ◌*◌, ◌/◌, ◌<◌, List, map, ◌≡◌, Bool, cond, not, length, get_or, eqb}
use Rattle.model.specs.Lists.{keep, any_of, ascending}
use Rattle.model.specs.Track.{zone_of, heading_of}

abbrev pub Position : Type 0
Position = List ℕ

-- what stands in a zone
abbrev pub at : Position → ℕ → ℕ
at p z = get_or p z 0

-- the carrier of a zone's number; 0 is no carrier
abbrev pub carrier_of : ℕ → ℕ
carrier_of v = v / 2

abbrev pub is_free : Position → ℕ → Bool
is_free p z = eqb (at p z) 0

-- the word of what stands in a held zone
abbrev pub standing : Position → ℕ → ℕ
standing p z = 2 * z + heading_of (at p z)

-- carrier c stands in the zone of w with w's heading: w is its standing
pub record Stands (p : Position) (c w : ℕ) : Type 0 where
  pub numbered : c ≡ 0 → ⊥
  pub inside : zone_of w < length p
  pub holds : at p (zone_of w) ≡ 2 * c + heading_of w

-- a carrier is out while it stands in a zone
abbrev pub Out : Position → ℕ → Type 0
Out p c = (w : ℕ) × Stands p c w

-- no carrier stands in two zones
abbrev pub Once : Position → Type 0
Once p = (c w v : ℕ) → Stands p c w → Stands p c v → w ≡ v

-- any set of carriers taken off
abbrev pub without : (ℕ → Bool) → Position → Position
without gone p = map (λ v. cond (gone (carrier_of v)) 0 v) p

-- one carrier taken off: its zone is free
abbrev pub retire : ℕ → Position → Position
retire c p = without (eqb c) p

-- only these carriers left, where they stand
abbrev pub only_left : List ℕ → Position → Position
only_left cs p = without (λ c. not (any_of (eqb c) cs)) p

-- the carriers out, ascending
abbrev pub outs : Position → List ℕ
outs p = ascending (keep (λ c. not (eqb c 0)) (map carrier_of p))

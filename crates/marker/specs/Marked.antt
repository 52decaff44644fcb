-- What the marker's functions ask and answer: a track and a position lent in slices, the number of one entry, and of a route.
-- The numbers are those of the rules' `mark_entry`; nothing here is a rule of its own.
use Rattle.std.specs.Prelude.{ℕ, ◌+◌, ◌*◌, List, ◌∷◌, ◌≡◌, Bool, cond, not, ◌&&◌, length, get_or, drop, ltb, eqb, Result, is_ok, IfOk}
use Rattle.std.proofs.Common.{Bor}
use Rattle.model.specs.Track.{Track, zone_of, heading_of, start}
use Rattle.model.specs.Position.{Position, at, Once, retire}
use Rattle.rules.specs.Key.{may_follow}
use Rattle.rules.specs.Sheet.{follow, ends_home, mark_entry}
use Rattle.marker.specs.declared.fault.Fault.{Fault}
use Rattle.marker.specs.Faults.{mark_number}

-- what the marker asks of the track and the position that it is lent: every `Ready` position has it
pub record Markable (t : Track) (p : Position) : Type 0 where
  -- one number a zone
  pub each : length p ≡ t.zones
  -- two ends a zone
  pub ends_count : length t.ends ≡ 2 * t.zones
  -- no carrier stands in two zones
  pub once : Once p

-- w is the standing of carrier c; 0 is no carrier
abbrev pub stands_at : ℕ → Position → ℕ → ℕ → Bool
stands_at zones p c w = not (eqb c 0) && (ltb w (2 * zones) && eqb (at p (zone_of w)) (2 * c + heading_of w))

-- carrier c may go from word w, which leaves at the point, to word v
abbrev pub step_from : Track → Position → ℕ → ℕ → ℕ → ℕ → Bool
step_from t p c point w v = not (eqb point t.home) && (ltb v (2 * t.zones) && (eqb (start t v) point && may_follow p c w v))

-- the number of a route, its standing w first: 32 where a word breaks the rules, 33 where the last doesn't leave at home, else 0
unfoldable pub route_number : Track → Position → ℕ → ℕ → List ℕ → ℕ
route_number t p c w vs = cond (not (follow t p c w vs)) 32 (cond (not (ends_home t (w ∷ vs))) 33 0)

-- the number of the one entry that these words start with: 0 where it passes
unfoldable pub entry_number : Track → Position → List ℕ → ℕ
entry_number t p ws = mark_entry t p ws (λ q rest. 0)

-- what marking the entry that these words start with gives: its fault, or the words after it; and the position left, with the carrier taken off
-- where there is no fault
pub record EntryMarked (t : Track) (p : Position) (ws : List ℕ) (r : Result (Bor (List ℕ)) Fault) (left : Position) : Type 0 where
  pub number : mark_number r ≡ entry_number t p ws
  pub rest : IfOk r (λ s. s.now ≡ drop (2 + get_or ws 1 0) ws)
  pub leaves : left ≡ cond (is_ok r) (retire (get_or ws 0 0) p) p

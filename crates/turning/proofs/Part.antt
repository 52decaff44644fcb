-- A part of the track built from one point, zone by zone, and the four theorems of turning for it, each by one induction over the building.
-- A new zone leads to one point more, a dead end; or both its ends are inside, and the way to the one, over it and back from the other turns.
use Prim.Native.Nat.{ℕ, suc, ◌*◌, ◌≤◌, ◌<◌}
use mathlib.Core.List.{List, [], ◌∷◌}
use mathlib.Core.Path.{◌≡◌, refl, ap, ◌∙◌}
use mathlib.Core.Bool.{Bool, true, false}
use mathlib.Core.Logic.{◌⊎◌, inl, inr}
use native.Mathlib.Omega.{arith}
use lib.ListN.{length}
use Rattle.model.specs.Track.{Track, zone_of, rev, start, leave}
use Rattle.model.proofs.BoolLaws.{both_ways, not_true_false}
use Rattle.turning.specs.Walks.{Walk, stay}
use Rattle.turning.proofs.Members.{elem, elem_either, elem_here, elem_there}
use Rattle.model.proofs.WordLaws.{same_zone, zone_rev}
use Rattle.turning.proofs.OneMore.{among, WalkBetween, Turn, empty_over_none, widen_one, widen_both, way_over, way_back, turn_over, walks_avoid}

-- the zones and the points so far
pub data Part (t : Track) (passes : ℕ → Bool) (v : ℕ) : List ℕ → List ℕ → Type 0 where
  alone : Part t passes v [] (v ∷ [])
  new_point : {zs ps : List ℕ} (w : ℕ) → w < 2 * t.zones → passes (zone_of w) ≡ true → elem (start t w) ps ≡ true → elem (leave t w) ps ≡ false → Part t passes v zs ps → Part t passes v (zone_of w ∷ zs) (leave t w ∷ ps)
  both_inside : {zs ps : List ℕ} (w : ℕ) → w < 2 * t.zones → passes (zone_of w) ≡ true → elem (start t w) ps ≡ true → elem (leave t w) ps ≡ true → elem (zone_of w) zs ≡ false → Part t passes v zs ps → Part t passes v (zone_of w ∷ zs) ps

-- a word of w's zone starts at an end of it
starts_inside : (t : Track) (u w : ℕ) (ps : List ℕ) → (u ≡ w) ⊎ (u ≡ rev w) → elem (start t w) ps ≡ true → elem (leave t w) ps ≡ true → elem (start t u) ps ≡ true
starts_inside t u w ps (inl c) a b = rw c a
starts_inside t u w ps (inr c) a b = rw c b

module _ {t : Track} {passes : ℕ → Bool} {v : ℕ} where
  pub first_inside : {zs ps : List ℕ} → Part t passes v zs ps → elem v ps ≡ true
  first_inside alone = elem_here v []
  first_inside (new_point {ps} w h e s n k) = elem_there v (leave t w) ps (first_inside k)
  first_inside (both_inside w h e s l n k) = first_inside k

  pub zones_pass : {zs ps : List ℕ} → Part t passes v zs ps → (z : ℕ) → elem z zs ≡ true → passes z ≡ true
  zones_pass alone z i = both_ways i refl
  zones_pass (new_point {zs} w h e s n k) z i = elem_either z (zone_of w) zs i (λ c. ap passes c ∙ e) (λ j. zones_pass k z j)
  zones_pass (both_inside {zs} w h e s l n k) z i = elem_either z (zone_of w) zs i (λ c. ap passes c ∙ e) (λ j. zones_pass k z j)

  -- both ends of its zones are inside: u may run either way
  pub ends_inside : {zs ps : List ℕ} → Part t passes v zs ps → (u : ℕ) → elem (zone_of u) zs ≡ true → elem (start t u) ps ≡ true
  ends_inside alone u i = both_ways i refl
  ends_inside (new_point {zs} {ps} w h e s n k) u i =
      elem_either (zone_of u) (zone_of w) zs i
      (λ c. starts_inside t u w (leave t w ∷ ps) (same_zone u w c) (elem_there (start t w) (leave t w) ps s) (elem_here (leave t w) ps))
      (λ j. elem_there (start t u) (leave t w) ps (ends_inside k u j))
  ends_inside (both_inside {zs} {ps} w h e s l n k) u i =
      elem_either (zone_of u) (zone_of w) zs i (λ c. starts_inside t u w ps (same_zone u w c) s l) (λ j. ends_inside k u j)

  -- a zone with an end outside is none of its zones
  pub zone_new : {zs ps : List ℕ} → Part t passes v zs ps → (w : ℕ) → elem (leave t w) ps ≡ false → elem (zone_of w) zs ≡ false
  zone_new {zs} k w n = not_true_false (elem (zone_of w) zs) (λ i. both_ways (ends_inside k (rev w) (rw zone_rev i)) n)

  -- a part has at most one point more than zones
  pub enough : {zs ps : List ℕ} → Part t passes v zs ps → length ps ≤ suc (length zs)
  enough alone = omega arith
  enough (new_point w h e s n k) = let r = enough k in omega arith
  enough (both_inside w h e s l n k) = let r = enough k in omega arith

  -- within the part there is a walk from its first point to each of its points and back
  pub ways : {zs ps : List ℕ} → Part t passes v zs ps → (q : ℕ) → elem q ps ≡ true → WalkBetween t zs v q × WalkBetween t zs q v
  ways alone q i = elem_either q v [] i (λ c. rw c (([], stay), ([], stay))) (λ j. both_ways j refl)
  ways (new_point {zs} {ps} w h e s n k) q i =
      let new = zone_new k w n in
      let (a, b) = ways k (start t w) s in
      elem_either q (leave t w) ps i
      (λ c. rw c (way_over t zs w h new a, way_back t zs w h new b))
      (λ j. widen_both t zs (zone_of w) (ways k q j))
  ways (both_inside {zs} w h e s l n k) q i = widen_both t zs (zone_of w) (ways k q i)

  -- with as many zones as points, or more, some walk comes back
  pub turn : {zs ps : List ℕ} → Part t passes v zs ps → length ps ≤ length zs → Turn t zs v
  turn alone m = absurd (omega arith)
  turn (new_point {zs} w h e s n k) m = let r = turn k (omega arith) in (r.0, widen_one t zs (zone_of w) r.1, r.2)
  turn (both_inside {zs} w h e s l n k) m = turn_over t zs w h n (ways k (start t w) s).0 (ways k (leave t w) l).1

  -- with fewer no walk comes back
  pub no_turn : {zs ps ws : List ℕ} → Part t passes v zs ps → length zs < length ps → Walk t (among zs) v ws v → ws ≡ []
  no_turn alone m r = empty_over_none r
  no_turn (new_point {zs} {ps} w h e s n k) m r =
      let other : (x : ℕ) → elem x ps ≡ true → x ≡ leave t w → ⊥ = λ x i c. both_ways i (ap (λ y. elem y ps) c ∙ n) in
      let v-other = other v (first_inside k) in
      no_turn k (omega arith) (walks_avoid t zs w (λ u i. other (start t u) (ends_inside k u i)) v-other v-other r)
  no_turn (both_inside w h e s l n k) m r = let a = enough k in absurd (omega arith)

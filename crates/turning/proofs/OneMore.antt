-- Walks over the zones of a list when the list gets one zone more: ways over the new zone, and no walk over it where it leads to a dead end.
-- A way over it joins two old ones; a walk that enters a dead end would have to leave it by the same zone.
use Prim.Native.Nat.{ℕ, ◌*◌, ◌<◌}
use mathlib.Core.List.{List, [], ◌∷◌, ◌++◌}
use mathlib.Core.Path.{◌≡◌, refl, sym, ap, ◌∙◌, subst}
use mathlib.Core.Bool.{Bool, true, false, true≢false}
use mathlib.Core.Logic.{◌⊎◌, inl, inr}
use native.Mathlib.Omega.{arith}
use Rattle.model.specs.Track.{Track, zone_of, rev, start, leave}
use Rattle.turning.specs.Walks.{AnotherZone, Walk, stay, go}
use Rattle.turning.proofs.Members.{elem, elem_either, elem_here, elem_there}
use Rattle.model.proofs.WordLaws.{same_zone, zone_rev, rev_below, leave_rev}
use Rattle.turning.proofs.WalkLaws.{widen, across}

-- the test of a list's zones
abbrev pub among : List ℕ → ℕ → Bool
among zs z = elem z zs

-- p and q have a walk over the zones of a list
abbrev pub WalkBetween : Track → List ℕ → ℕ → ℕ → Type 0
WalkBetween t zs p q = (ws : List ℕ) × Walk t (among zs) p ws q

-- from p a walk that is not empty comes back to it
abbrev pub Turn : Track → List ℕ → ℕ → Type 0
Turn t zs p = (ws : List ℕ) × Walk t (among zs) p ws p × (ws ≡ [] → ⊥)

not_empty : (ws vs : List ℕ) (w : ℕ) → ws ++ (w ∷ vs) ≡ [] → ⊥
not_empty [] vs w e = let z : ◌≡◌ {A = ℕ} 0 1 = cc in omega arith
not_empty (u ∷ ws) vs w e = let z : ◌≡◌ {A = ℕ} 0 1 = cc in omega arith

pub empty_over_none : {t : Track} {p q : ℕ} {ws : List ℕ} → Walk t (among []) p ws q → ws ≡ []
empty_over_none stay = refl
empty_over_none (go w h e s a k) = absurd (true≢false (sym e))

module _ (t : Track) (zs : List ℕ) where
  pub widen_one : (z : ℕ) {p q : ℕ} {ws : List ℕ} → Walk t (among zs) p ws q → Walk t (among (z ∷ zs)) p ws q
  widen_one z k = widen t (among zs) (among (z ∷ zs)) (λ y j. elem_there y z zs j) k

  pub widen_both : (z : ℕ) {p q : ℕ} → WalkBetween t zs p q × WalkBetween t zs q p → WalkBetween t (z ∷ zs) p q × WalkBetween t (z ∷ zs) q p
  widen_both z r = ((r.0.0, widen_one z r.0.1), (r.1.0, widen_one z r.1.1))

  module _ (w : ℕ) (h : w < 2 * t.zones) (new : elem (zone_of w) zs ≡ false) where
    -- a walk to where w starts, w, and a walk from where it leaves
    walk_over : {p r : ℕ} {ws vs : List ℕ} → Walk t (among zs) p ws (start t w) → Walk t (among zs) (leave t w) vs r → Walk t (among (zone_of w ∷ zs)) p (ws ++ (w ∷ vs)) r
    walk_over a b = across t (among zs) (among (zone_of w ∷ zs)) (λ y j. elem_there y (zone_of w) zs j) w h (elem_here (zone_of w) zs) new refl a b

    pub way_over : {p : ℕ} → WalkBetween t zs p (start t w) → WalkBetween t (zone_of w ∷ zs) p (leave t w)
    way_over a = (a.0 ++ (w ∷ []), walk_over a.1 stay)

    pub turn_over : {p : ℕ} → WalkBetween t zs p (start t w) → WalkBetween t zs (leave t w) p → Turn t (zone_of w ∷ zs) p
    turn_over a b = (a.0 ++ (w ∷ b.0), walk_over a.1 b.1, not_empty a.0 b.0 w)

  pub way_back : (w : ℕ) → w < 2 * t.zones → elem (zone_of w) zs ≡ false → {p : ℕ} → WalkBetween t zs (start t w) p → WalkBetween t (zone_of w ∷ zs) (leave t w) p
  way_back w h new {p} a = (rev w ∷ a.0, rw zone_rev at r)
    where
      b : Walk t (among zs) (leave t (rev w)) a.0 p
      b = rw leave_rev a.1

      r : Walk t (among (zone_of (rev w) ∷ zs)) (leave t w) (rev w ∷ a.0) p
      r = walk_over (rev w) (rev_below t.zones w h) (rw zone_rev new) stay b

  -- w leads to a point where no zone of the list ends: walks between other points don't use it
  module _ (w : ℕ) (dead_end : (u : ℕ) → elem (zone_of u) zs ≡ true → start t u ≡ leave t w → ⊥) where
    no_way_out : {q : ℕ} {ws : List ℕ} (u : ℕ) → zone_of u ≡ zone_of w → AnotherZone u ws → Walk t (among (zone_of w ∷ zs)) (leave t w) ws q → q ≡ leave t w
    no_way_out u c a stay = refl
    no_way_out u c a (go x h e s b k) = absurd (elem_either (zone_of x) (zone_of w) zs e (λ d. a (d ∙ sym c)) (λ j. dead_end x j s))

    pub walks_avoid : {p q : ℕ} {ws : List ℕ} → (p ≡ leave t w → ⊥) → (q ≡ leave t w → ⊥) → Walk t (among (zone_of w ∷ zs)) p ws q → Walk t (among zs) p ws q
    walks_avoid m n stay = stay
    walks_avoid {q} m n (go u {ws = vs} h e s a k) =
        elem_either (zone_of u) (zone_of w) zs e
        (λ c. absurd (enters c (same_zone u w c)))
        (λ j. go u h j s a (walks_avoid (dead_end (rev u) (rw zone_rev j)) n k))
      where
        enters : zone_of u ≡ zone_of w → (u ≡ w) ⊎ (u ≡ rev w) → ⊥
        enters c (inl d) = n (no_way_out u c a (subst (λ x. Walk t (among (zone_of w ∷ zs)) x vs q) (ap (leave t) d) k))
        enters c (inr d) = m (sym s ∙ ap (start t) d)

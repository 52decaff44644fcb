-- Laws of walks: more zones may pass, two walks are joined by a word of a zone that neither passes, and linked points have a walk.
-- Each is an induction over the first walk or the link.
use Prim.Native.Nat.{ℕ, ◌*◌, ◌<◌}
use mathlib.Core.List.{List, [], ◌∷◌, ◌++◌}
use mathlib.Core.Path.{◌≡◌, refl, ap, ◌∙◌, subst}
use mathlib.Core.Bool.{Bool, true, false, true≢false}
use mathlib.Core.Logic.{◌⊎◌, inl, inr}
use lib.Dec.{eqb}
use borrow.Author.Tests.{eqb-true, eqb-false}
use Rattle.model.specs.Track.{Track, Linked, here, over, zone_of, rev, start, leave}
use Rattle.turning.specs.Walks.{AnotherZone, Walk, stay, go}
use Rattle.model.proofs.WordLaws.{same_zone, leave_rev}

-- a word of a zone that does not pass stands apart from every walk
pub apart_outside : {t : Track} {passes : ℕ → Bool} {p q : ℕ} {vs : List ℕ} (w : ℕ) → passes (zone_of w) ≡ false → Walk t passes p vs q → AnotherZone w vs
apart_outside w n stay = tt
apart_outside w n (go u h e s a k) = λ c. true≢false (cc)

module _ (t : Track) (f g : ℕ → Bool) (wider : (z : ℕ) → f z ≡ true → g z ≡ true) where
  -- where more zones pass a walk stays one
  pub widen : {p q : ℕ} {ws : List ℕ} → Walk t f p ws q → Walk t g p ws q
  widen stay = stay
  widen (go w h e s a k) = go w h (wider (zone_of w) e) s a (widen k)

  apart_within : {p q : ℕ} {ws : List ℕ} (u w : ℕ) (vs : List ℕ) → f (zone_of u) ≡ true → f (zone_of w) ≡ false → AnotherZone u ws → Walk t f p ws q → AnotherZone u (ws ++ (w ∷ vs))
  apart_within u w vs e n a stay = λ c. true≢false (cc)
  apart_within u w vs e n a (go x h d s b k) = a

  -- a walk, a word of a zone that the walks don't pass, a walk
  pub across : {p q r : ℕ} {ws vs : List ℕ} (w : ℕ) → w < 2 * t.zones → g (zone_of w) ≡ true → f (zone_of w) ≡ false → start t w ≡ q → Walk t f p ws q → Walk t f (leave t w) vs r → Walk t g p (ws ++ (w ∷ vs)) r
  across w h e n s stay back = go w h e s (apart_outside w n back) (widen back)
  across {vs} w h e n s (go u i d r a k) back = go u i (wider (zone_of u) d) r (apart_within u w vs d n a k) (across w h e n s k back)

module _ (t : Track) (passes : ℕ → Bool) where
  pub linked_of_walk : {p q : ℕ} {ws : List ℕ} → Walk t passes p ws q → Linked t (λ z. passes z ≡ true) p q
  linked_of_walk stay = here
  linked_of_walk (go w h e s a k) = over w h e s (linked_of_walk k)

  -- a word before a walk: where the walk begins with the same zone the two words cancel, or one is enough
  before : {p : ℕ} (w : ℕ) {q : ℕ} {ws : List ℕ} → w < 2 * t.zones → passes (zone_of w) ≡ true → start t w ≡ p → Walk t passes (leave t w) ws q → (vs : List ℕ) × Walk t passes p vs q
  before w h e s stay = (w ∷ [], go w h e s tt stay)
  before {p} w {q} h e s (go u {ws = vs} i d r a k) = pick (eqb (zone_of u) (zone_of w)) refl
    where
      again : (u ≡ w) ⊎ (u ≡ rev w) → (xs : List ℕ) × Walk t passes p xs q
      again (inl c) = (u ∷ vs, go {p = p} u i d (ap (start t) c ∙ s) a k)
      again (inr c) = (vs, subst (λ x. Walk t passes x vs q) (ap (leave t) c ∙ leave_rev t w ∙ s) k)

      pick : (b : Bool) → eqb (zone_of u) (zone_of w) ≡ b → (xs : List ℕ) × Walk t passes p xs q
      pick false n = (w ∷ u ∷ vs, go w h e s (eqb-false (zone_of u) (zone_of w) n) (go u i d r a k))
      pick true n = again (same_zone u w (eqb-true (zone_of u) (zone_of w) n))

  -- linked points have a walk
  pub walk_of_linked : {p q : ℕ} → Linked t (λ z. passes z ≡ true) p q → (ws : List ℕ) × Walk t passes p ws q
  walk_of_linked here = ([], stay)
  walk_of_linked (over w h e s k) = before w h e s (walk_of_linked k).1

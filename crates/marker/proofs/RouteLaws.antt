-- A route's number, word by word: a word that may not follow gives 32, one that may leaves the number of the words after it; at the end the last
-- word's leaving point decides.
-- The tests are taken apart by their cases.
use Prim.Native.Nat.{ℕ, ◌+◌, ◌*◌, ◌≤◌, ◌<◌}
use mathlib.Core.List.{List, [], ◌∷◌}
use mathlib.Core.Path.{◌≡◌, refl, sym, ap, ◌∙◌}
use mathlib.Core.Bool.{Bool, true, false, cond, not, ◌&&◌}
use native.Mathlib.Numerals.{add-one}
use lib.ListN.{length, get_or, drop, drop_of_length-le}
use lib.Seq.{drop-cons}
use lib.Dec.{ltb, eqb}
use borrow.Author.Tests.{eq-eqb, ne_eqb, not-true, not-false}
use Rattle.model.specs.Track.{Track, start, leave}
use Rattle.model.specs.Position.{Position}
use Rattle.rules.specs.Key.{may_follow, leaves_home}
use Rattle.rules.specs.Sheet.{follow, follow_by, ends_home}
use Rattle.marker.specs.Marked.{step_from, route_number}

module _ (t : Track) (p : Position) (c w : ℕ) where
  -- the number of a route with one word more, by the test of that word
  number_next : (v : ℕ) (vs : List ℕ) → route_number t p c w (v ∷ vs) ≡ cond (step_from t p c (leave t w) w v) (route_number t p c v vs) 32
  unfolding route_number follow_by ends_home
  number_next v vs = go (leaves_home t w) (ltb v (2 * t.zones)) (eqb (start t v) (leave t w) && may_follow p c w v) (follow t p c v vs) (ends_home t (v ∷ vs))
    where
      go : (h l x f e : Bool) → cond {A = ℕ} (not (l && ((not h && x) && f))) 32 (cond (not e) 33 0) ≡ cond (not h && (l && x)) (cond (not f) 32 (cond (not e) 33 0)) 32
      go true true x f e = refl
      go true false x f e = refl
      go false true true f e = refl
      go false true false f e = refl
      go false false x f e = refl

  number_last : (a : Bool) → leaves_home t w ≡ a → route_number t p c w [] ≡ cond a 0 33
  unfolding route_number follow_by ends_home
  number_last a e = rw e (go a)
    where
      go : (a : Bool) → cond {A = ℕ} (not a) 33 0 ≡ cond a 0 33
      go true = refl
      go false = refl

-- what holds while the words of the route are followed: w is the word before place i and leaves at the point, and the rest's number is the whole's
pub record Following (t : Track) (p : Position) (c standing : ℕ) (route : List ℕ) (w point i : ℕ) : Type 0 where
  pub leaves : point ≡ leave t w
  pub same : route_number t p c w (drop i route) ≡ route_number t p c standing route

module _ {t : Track} {p : Position} {c standing : ℕ} {route : List ℕ} {w point i : ℕ} (g : Following t p c standing route w point i) where
  -- the number of the whole route by the test of the word at place i
  follow_next : {r x : Bool} → i < length route → r ≡ step_from t p c point w (get_or route i 0) → r ≡ x → route_number t p c standing route ≡ cond x (route_number t p c (get_or route i 0) (drop (i + 1) route)) 32
  follow_next {r} {x} h e f =
      let v = get_or route i 0 in
      let rest = route_number t p c v (drop (i + 1) route) in
      sym g.same ∙ ap (route_number t p c w) (drop-cons route i 0 h ∙ ap (λ (n : ℕ). v ∷ drop n route) (sym (add-one i)))
      ∙ number_next t p c w v (drop (i + 1) route)
      ∙ ap (λ (b : Bool). cond b rest 32) (ap (λ (q : ℕ). step_from t p c q w v) (sym g.leaves) ∙ sym e ∙ f)

  follow_last : (a : Bool) → length route ≤ i → leaves_home t w ≡ a → route_number t p c standing route ≡ cond a 0 33
  follow_last a h e = sym g.same ∙ ap (route_number t p c w) (drop_of_length-le route h) ∙ number_last t p c w a e

  module _ (h : i < length route) {r : Bool} (e : r ≡ step_from t p c point w (get_or route i 0)) where
    pub no_step : not r ≡ true → 32 ≡ route_number t p c standing route
    no_step n = sym (follow_next h e (not-true r n))

    pub step_on : {q : ℕ} → not r ≡ false → q ≡ leave t (get_or route i 0) → Following t p c standing route (get_or route i 0) q (i + 1)
    step_on n l = record { leaves = l; same = sym (follow_next h e (not-false r n)) }

  pub not_home : length route ≤ i → (point ≡ t.home → ⊥) → 33 ≡ route_number t p c standing route
  not_home h n = sym (follow_last false h (ne_eqb (leave t w) t.home (λ a. n (g.leaves ∙ a))))

  pub at_home : length route ≤ i → point ≡ t.home → 0 ≡ route_number t p c standing route
  at_home h a = sym (follow_last true h (eq-eqb (leave t w) t.home (sym g.leaves ∙ a)))

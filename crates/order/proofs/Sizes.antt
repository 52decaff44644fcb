-- How much the key writes: at most one entry for each carrier out, at most 2 × Z words in each route, every word below 2 × Z.
-- Who is in the plan: exactly those out who are not named.
use Prim.Native.Nat.{ℕ, suc, ◌+◌, ◌*◌, ◌≤◌, ◌<◌}
use mathlib.Core.Path.{◌≡◌, refl}
use mathlib.Core.List.Memᴰ
use mathlib.Core.List.{List, [], ◌∷◌, ◌++◌, Memᴰ}
use mathlib.Core.Logic.{◌⊎◌, inl, inr, ◌↔◌}
use native.Mathlib.Nat.{le_trans, mul-le-mul_right, suc-mul}
use native.Mathlib.Omega.{arith}
use lib.ListN.{length, length-append}
use Rattle.model.specs.Track.{Track}
use Rattle.model.specs.Position.{Position, Out, outs}
use Rattle.model.specs.Accepted.{Laid}
use Rattle.model.proofs.AscendingLaws.{NoRepeats}
use Rattle.model.proofs.PositionLaws.{stands_below, laid_retire}
use Rattle.rules.specs.Routes.{OnwardBy, Onward, Route, route, Entry, leaving}
use Rattle.rules.specs.Key.{run, named, named_by, plan_words}
use Rattle.order.specs.LowestFirst.{Least, LowestFirst, ended, leaves}
use Rattle.order.proofs.LastPosition.{goer_numbered}
use Rattle.order.proofs.LeastRoute.{route_least_exists, route_least_sound}
use Rattle.order.proofs.KeyRun.{run_lowest, run_retires}
use Rattle.order.proofs.Retired.{leaving_out, leaves_or_out, leaving_once, leaving_count}
use Rattle.order.proofs.Named.{named_left, named_blocked}

module _ {t : Track} where
  -- a least route has at most 2 × Z words
  pub least_short : {p : Position} {c : ℕ} {r : List ℕ} → Laid t p → Least t p c r → length r ≤ 2 * t.zones
  least_short {r = r} laid l =
      let f = route_least_exists laid (r, l.goes) in
      let s = route_least_sound laid.once (goer_numbered l.goes) f.1 in
      le_trans (l.fewest f.0 s.0) s.1

  onward_below : {p : Position} {c w v : ℕ} {vs : List ℕ} → Onward t p c w vs → Memᴰ v vs → v < 2 * t.zones
  onward_below (OnwardBy.arrives e) m = absurd (Memᴰ.not-nil m)
  onward_below {v = v} (OnwardBy.goes {v = u} {vs = us} s o) m = go (Memᴰ.cases_cons m) (λ k. onward_below o k)
    where
      go : (v ≡ u) ⊎ Memᴰ v us → (Memᴰ v us → v < 2 * t.zones) → v < 2 * t.zones
      go (inl e) ih = rw e s.ungated.word
      go (inr k) ih = ih k

  -- every word of a route is a word of the track
  pub route_below : {p : Position} {c v : ℕ} {r : List ℕ} → Laid t p → Route t p c r → Memᴰ v r → v < 2 * t.zones
  route_below {p} {v = v} laid (route {w = w} {vs = vs} s o) m = go (Memᴰ.cases_cons m)
    where
      go : (v ≡ w) ⊎ Memᴰ v vs → v < 2 * t.zones
      go (inl e) = rw e (stands_below t p laid s)
      go (inr k) = onward_below o k

-- what holds of each entry of a plan
pub record Fits (t : Track) (e : Entry) : Type 0 where
  pub short : length e.words ≤ 2 * t.zones
  pub words_below : (w : ℕ) → Memᴰ w e.words → w < 2 * t.zones

module _ {t : Track} where
  lowest_fits : {p q : Position} {es : List Entry} → Laid t p → LowestFirst t p es q → (e : Entry) → Memᴰ e es → Fits t e
  lowest_fits laid (ended n) e m = absurd (Memᴰ.not-nil m)
  lowest_fits {p} laid (leaves {e = f} {es = es} l r rest) e m = go (Memᴰ.cases_cons m) (lowest_fits (laid_retire t f.carrier p laid) rest e)
    where
      fits : Fits t f
      fits = record { short = least_short laid r; words_below = λ w k. route_below laid r.goes k }

      go : (e ≡ f) ⊎ Memᴰ e es → (Memᴰ e es → Fits t e) → Fits t e
      go (inl q) ih = rw q fits
      go (inr k) ih = ih k

words_bound : (n : ℕ) (es : List Entry) → ((e : Entry) → Memᴰ e es → length e.words ≤ n) → length (plan_words es) ≤ length es * (2 + n)
unfolding plan_words
words_bound n [] h = omega arith
words_bound n (e ∷ es) h =
    let a : length e.words ≤ n = h e (Memᴰ.head refl) in
    let b : length (plan_words es) ≤ length es * (2 + n) = words_bound n es (λ f m. h f (Memᴰ.tail m)) in
    let c : length (e.words ++ plan_words es) ≡ length e.words + length (plan_words es) = length-append e.words (plan_words es) in
    let d : suc (length es) * (2 + n) ≡ length es * (2 + n) + (2 + n) = suc-mul (length es) (2 + n) in
    omega arith

module _ (t : Track) (p : Position) (laid : Laid t p) where
  pub plan_fits : (e : Entry) → Memᴰ e (run t p).plan → Fits t e
  plan_fits e m = lowest_fits laid (run_lowest t p laid) e m

  -- each carrier out is in the plan or named
  pub plan_and_named : length (run t p).plan + length (named t p) ≡ length (outs p)
  unfolding named_by
  plan_and_named = leaving_count laid.once (run_retires t p laid)

  pub plan_entries : length (run t p).plan ≤ length (outs p)
  plan_entries = omega (arith, plan_and_named)

  pub named_most : length (named t p) ≤ length (outs p)
  named_most = omega (arith, plan_and_named)

  -- the plan fits in the room that row 10 asks for
  pub plan_room : length (plan_words (run t p).plan) ≤ length (outs p) * (2 + 2 * t.zones)
  plan_room =
      le_trans (words_bound (2 * t.zones) (run t p).plan (λ e m. (plan_fits e m).short))
      (mul-le-mul_right (2 + 2 * t.zones) plan_entries)

  pub plan_once : NoRepeats (leaving (run t p).plan)
  plan_once = leaving_once (run_retires t p laid)

  pub plan_carriers : (c : ℕ) → Memᴰ c (leaving (run t p).plan) ↔ (Out p c × (Memᴰ c (named t p) → ⊥))
  plan_carriers c = (λ m. (leaving_out (run_retires t p laid) m, λ k. (named_blocked t p laid k).1 _ _ (run_retires t p laid) m), λ (o, n). go n (leaves_or_out (run_retires t p laid) o))
    where
      go : (Memᴰ c (named t p) → ⊥) → Memᴰ c (leaving (run t p).plan) ⊎ Out (run t p).last c → Memᴰ c (leaving (run t p).plan)
      go n (inl m) = m
      go n (inr o) = absurd (n ((named_left t p).1 o))

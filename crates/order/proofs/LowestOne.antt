-- The key's order leaves no choice: a carrier has one least route, and from a position one sequence of entries is in the order.
-- Two least routes are each no longer and no later than the other; of two carriers that leave next neither is lower.
use Prim.Native.Nat.{ℕ, ◌<◌}
use mathlib.Core.Path.{◌≡◌, refl, sym, ap₂, subst}
use mathlib.Core.List.{List, ◌∷◌}
use mathlib.Core.Logic.{◌⊎◌, inl, inr}
use native.Mathlib.Omega.{arith}
use native.Mathlib.Nat.{le_antisymm}
use lib.ListN.{length}
use Rattle.model.specs.Track.{Track}
use Rattle.model.specs.Position.{Position, retire}
use Rattle.model.specs.Accepted.{Laid}
use Rattle.rules.specs.Routes.{Entry}
use Rattle.rules.specs.Tries.{CanGo}
use Rattle.rules.specs.Key.{run}
use Rattle.least.specs.Ways.{Before}
use Rattle.order.specs.LowestFirst.{Least, LowestFirst, ended, leaves, OnePlan}
use Rattle.order.proofs.LeastRoute.{before_once}
use Rattle.order.proofs.KeyRun.{run_lowest}

module _ {t : Track} where
  pub least_one : {p : Position} {c : ℕ} {r s : List ℕ} → Least t p c r → Least t p c s → r ≡ s
  least_one {r = r} {s} a b = go (a.smallest s b.goes (sym same)) (b.smallest r a.goes same)
    where
      same : length r ≡ length s
      same = le_antisymm (a.fewest s b.goes) (b.fewest r a.goes)

      go : (r ≡ s) ⊎ Before r s → (s ≡ r) ⊎ Before s r → r ≡ s
      go (inl e) y = e
      go (inr x) (inl e) = sym e
      go (inr x) (inr y) = absurd (before_once x y)

  next_carrier : {p : Position} {d e : Entry} → ((c : ℕ) → c < d.carrier → CanGo t p c → ⊥) → Least t p d.carrier d.words
      → ((c : ℕ) → c < e.carrier → CanGo t p c → ⊥) → Least t p e.carrier e.words → d.carrier ≡ e.carrier
  next_carrier {d = d} {e} lower-d a lower-e b =
      let x : d.carrier < e.carrier → ⊥ = λ l. lower-e d.carrier l (d.words, a.goes) in
      let y : e.carrier < d.carrier → ⊥ = λ l. lower-d e.carrier l (e.words, b.goes) in
      omega arith

  next_entry : {p : Position} {d e : Entry} → d.carrier ≡ e.carrier → Least t p d.carrier d.words → Least t p e.carrier e.words → d ≡ e
  next_entry {p} {d} {e} q a b =
      let same : d.words ≡ e.words = least_one (rw q at a) b in
      λ i. record { carrier = q i; words = same i }

  pub lowest_one : {p q r : Position} {es fs : List Entry} → LowestFirst t p es q → LowestFirst t p fs r → (es ≡ fs) × (q ≡ r)
  lowest_one (ended n) (ended m) = (refl, refl)
  lowest_one (ended n) (leaves {e = e} l a rest) = absurd (n e.carrier (e.words, a.goes))
  lowest_one (leaves {e = e} l a rest) (ended n) = absurd (n e.carrier (e.words, a.goes))
  lowest_one {p} (leaves {e = d} {es = ds} l a rest) (leaves {q = r} {e = e} {es = es} m b rest') =
      let same : d.carrier ≡ e.carrier = next_carrier l a m b in
      let tail = lowest_one rest (subst (λ (c : ℕ). LowestFirst t (retire c p) es r) (sym same) rest') in
      (ap₂ (λ (x : Entry) (y : List Entry). x ∷ y) (next_entry same a b) tail.0, tail.1)

  -- a sequence in the key's order is the key's plan
  pub plan_only : {p q : Position} {es : List Entry} → Laid t p → LowestFirst t p es q → (es ≡ (run t p).plan) × (q ≡ (run t p).last)
  plan_only {p} laid l = lowest_one l (run_lowest t p laid)

pub one_plan : OnePlan
one_plan t p q r es fs a b = lowest_one a b

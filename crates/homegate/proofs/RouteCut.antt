-- Routes by the older moving rule and now: a carrier can go by the one exactly when it can by the other, and so ordered and blocked are the same.
-- A route now is one of the older rule in which a word that leaves at home is the last; one of the older rule is a route now, or is cut at its
-- first such word to a shorter one.
use Prim.Native.Nat.{ℕ, suc, ◌<◌}
use mathlib.Core.Path.{◌≡◌, refl, sym, ap, subst}
use mathlib.Core.List.{List, [], ◌∷◌, Memᴰ}
use mathlib.Core.Bool.{Bool, true, false, not}
use mathlib.Core.Logic.{◌⊎◌, inl, inr, ⊎_elim, ◌↔◌}
use native.Mathlib.Omega.{arith}
use lib.ListN.{length}
use borrow.Author.Tests.{eqb-true, eqb-false, ne_eqb, not-true}
use Rattle.model.specs.Track.{Track, leave}
use Rattle.model.specs.Position.{Position}
use Rattle.model.proofs.BoolLaws.{and_left, and_right, and_both}
use Rattle.rules.specs.Routes.{UngatedStep, OnwardBy, arrives, goes, RouteBy, route, Entry, leaving, RetiresBy, done, next, Onward, Route, Retires}
use Rattle.rules.specs.Tries.{CanGo}
use Rattle.rules.specs.Key.{leaves_home}
use Rattle.homegate.specs.AgainstOlder.{home_is_last, OrdersSame}

module _ {t : Track} where
  -- what is by the moving rule is by the older one

  onward_ungated : {p : Position} {c w : ℕ} {vs : List ℕ} → Onward t p c w vs → OnwardBy UngatedStep t p c w vs
  onward_ungated (arrives e) = arrives e
  onward_ungated (goes s o) = goes s.ungated (onward_ungated o)

  pub route_ungated : {p : Position} {c : ℕ} {r : List ℕ} → Route t p c r → RouteBy UngatedStep t p c r
  route_ungated (route s o) = route s (onward_ungated o)

  retires_ungated : {p q : Position} {es : List Entry} → Retires t p es q → RetiresBy UngatedStep t p es q
  retires_ungated done = done
  retires_ungated (next r rs) = next (route_ungated r) (retires_ungated rs)

  onward_home_last : {p : Position} {c w : ℕ} {vs : List ℕ} → Onward t p c w vs → home_is_last t (w ∷ vs) ≡ true
  onward_home_last (arrives e) = refl
  onward_home_last (goes {w = w} {v = v} {vs = vs} s o) = and_both (not (leaves_home t w)) (home_is_last t (v ∷ vs)) (ap not (ne_eqb (leave t w) t.home s.gate)) (onward_home_last o)

  -- where a word that leaves at home is the last, the older rule's route is one

  onward_gated : {p : Position} {c w : ℕ} {vs : List ℕ} → OnwardBy UngatedStep t p c w vs → home_is_last t (w ∷ vs) ≡ true → Onward t p c w vs
  onward_gated (arrives e) h = arrives e
  onward_gated (goes {w = w} {v = v} {vs = vs} s o) h =
      let gate = eqb-false (leave t w) t.home (not-true (leaves_home t w) (and_left (not (leaves_home t w)) (home_is_last t (v ∷ vs)) h)) in
      goes (record { ungated = s; gate = gate }) (onward_gated o (and_right (not (leaves_home t w)) (home_is_last t (v ∷ vs)) h))

  route_gated : {p : Position} {c : ℕ} {r : List ℕ} → Route t p c r ↔ (RouteBy UngatedStep t p c r × (home_is_last t r ≡ true))
  route_gated {p} {c} = (λ g. (route_ungated g, last g), λ (g, h). gated g h)
    where
      last : {r : List ℕ} → Route t p c r → home_is_last t r ≡ true
      last (route s o) = onward_home_last o

      gated : {r : List ℕ} → RouteBy UngatedStep t p c r → home_is_last t r ≡ true → Route t p c r
      gated (route s o) h = route s (onward_gated o h)

  -- and one of the older rule is a route, or is cut at home to a shorter one

  onward_cut : {p : Position} {c w : ℕ} {vs : List ℕ} → OnwardBy UngatedStep t p c w vs → Onward t p c w vs ⊎ ((us : List ℕ) × Onward t p c w us × (length us < length vs))
  onward_cut (arrives e) = inl (arrives e)
  onward_cut {p} {c} (goes {w = w} {v = v} {vs = vs} s o) = at_home (leaves_home t w) refl (onward_cut o)
    where
      at_home : (b : Bool) → leaves_home t w ≡ b → Onward t p c v vs ⊎ ((us : List ℕ) × Onward t p c v us × (length us < length vs))
          → Onward t p c w (v ∷ vs) ⊎ ((us : List ℕ) × Onward t p c w us × (length us < suc (length vs)))
      at_home true e rest = inr ([], arrives (eqb-true (leave t w) t.home e), omega arith)
      at_home false e (inl n) = inl (goes (record { ungated = s; gate = eqb-false (leave t w) t.home e }) n)
      at_home false e (inr (us, n, l)) = inr (v ∷ us, goes (record { ungated = s; gate = eqb-false (leave t w) t.home e }) n, omega (arith, l))

  pub cut_shorter : {p : Position} {c : ℕ} {s : List ℕ} → RouteBy UngatedStep t p c s → Route t p c s ⊎ ((r : List ℕ) × Route t p c r × (length r < length s))
  cut_shorter {p} {c} (route {w = w} stands o) = by (onward_cut o)
    where
      by : {vs : List ℕ} → Onward t p c w vs ⊎ ((us : List ℕ) × Onward t p c w us × (length us < length vs)) → Route t p c (w ∷ vs) ⊎ ((r : List ℕ) × Route t p c r × (length r < suc (length vs)))
      by (inl n) = inl (route stands n)
      by (inr (us, n, l)) = inr (w ∷ us, route stands n, omega (arith, l))

  pub route_cut : {p : Position} {c : ℕ} {r : List ℕ} → RouteBy UngatedStep t p c r → CanGo t p c
  route_cut {r = r} g = ⊎_elim (λ n. (r, n)) (λ (us, n, l). (us, n)) (cut_shorter g)

  retires_cut : {p q : Position} {es : List Entry} → RetiresBy UngatedStep t p es q → (fs : List Entry) × Retires t p fs q × (leaving fs ≡ leaving es)
  retires_cut done = ([], done, refl)
  retires_cut (next {e = e} r rs) =
      let (us, n) = route_cut r in
      let (fs, ns, same) = retires_cut rs in
      (record { carrier = e.carrier; words = us } ∷ fs, next n ns, ap (λ (l : List ℕ). e.carrier ∷ l) same)

pub orders_same : OrdersSame
orders_same t p =
    record {
      can_go = λ c. (λ (r, g). route_cut g, λ (r, g). (r, route_ungated g));
      ordered = (
        λ (es, q, rs, empty). let (fs, ns, same) = retires_cut rs in (fs, q, ns, empty),
        λ (es, q, rs, empty). (es, q, retires_ungated rs, empty),
      );
      blocked =
          λ c. (
            λ (out, never). (out, λ es q rs m. never es q (retires_ungated rs) m),
            λ (out, never). (out, λ es q rs m. let (fs, ns, same) = retires_cut rs in never fs q ns (subst (λ (l : List ℕ). Memᴰ c l) (sym same) m)),
          );
      routes = λ c r. route_gated;
    }

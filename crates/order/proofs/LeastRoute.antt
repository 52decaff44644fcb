-- The least route of a carrier exists exactly where the carrier has any, is a route, and no route of it is less.
-- A route after its first word is a way over `nexts` to a word that leaves at home; the laws of least ways are crate least's.
use Prim.Native.Nat.{ℕ, suc, ◌*◌, ◌≤◌, ◌<◌, suc-le-suc}
use mathlib.Core.Path.{◌≡◌, refl, sym, ap, ◌∙◌}
use mathlib.Core.List.{List, ◌∷◌, head-eq_of_cons-eq, tail-eq_of_cons-eq}
use mathlib.Core.Bool.{Bool, true, false}
use mathlib.Core.Logic.{◌⊎◌, inl, inr, ◌↔◌}
use mathlib.Core.Option.{Option, none, some}
use native.Mathlib.Nat.{suc_inj}
use native.Mathlib.Omega.{arith}
use lib.ListN.{length}
use lib.Dec.{eqb}
use borrow.Author.Tests.{eqb-true, eqb-false, eq-eqb}
use Rattle.model.specs.Track.{Track}
use Rattle.model.specs.Position.{Position, Stands, Out, Once}
use Rattle.model.specs.Accepted.{Laid}
use Rattle.model.proofs.PositionLaws.{stands_word, stands_below}
use Rattle.rules.specs.Routes.{OnwardBy, Onward, Route, route}
use Rattle.rules.specs.Search.{least_from}
use Rattle.rules.specs.Tries.{CanGo}
use Rattle.rules.specs.Key.{nexts, leaves_home, zone_for, route_from, least_route, least_route_by}
use Rattle.rules.proofs.Standing.{zone_stands, stands_zone}
use Rattle.least.specs.Ways.{Way, Before, differs, later}
use Rattle.least.proofs.LeastWay.{least_sound, least_shortest, least_smallest, least_exists}
use Rattle.order.specs.LowestFirst.{Least}
use Rattle.order.proofs.Steps.{nexts_step, step_nexts, nexts_below, nexts_ascending}
use Rattle.order.proofs.LastPosition.{goer_numbered}

pub onward_way : {t : Track} {p : Position} {c w : ℕ} {vs : List ℕ} → Onward t p c w vs → Way (nexts t p c) (leaves_home t) w vs
onward_way (OnwardBy.arrives e) = Way.ends (eq-eqb _ _ e)
onward_way {t} {p} {c} {w} (OnwardBy.goes {v = v} s o) = Way.goes (step_nexts t p c w v s) (onward_way o)

pub way_onward : {t : Track} {p : Position} {c w : ℕ} {vs : List ℕ} → Way (nexts t p c) (leaves_home t) w vs → Onward t p c w vs
way_onward (Way.ends e) = OnwardBy.arrives (eqb-true _ _ e)
way_onward {t} {p} {c} {w} (Way.goes {v = v} m y) = OnwardBy.goes (nexts_step t p c w v m) (way_onward y)

pub onward_iff_way : (t : Track) (p : Position) (c w : ℕ) (vs : List ℕ) → Onward t p c w vs ↔ Way (nexts t p c) (leaves_home t) w vs
onward_iff_way t p c w vs = (onward_way, way_onward)

-- the search starts at the standing
pub least_at : (t : Track) {p : Position} {c w : ℕ} → Once p → Stands p c w → least_route t p c ≡ least_from (nexts t p c) (leaves_home t) (2 * t.zones) w
unfolding least_route_by
least_at t {p} {c} {w} once s =
    ap (route_from t p c) (stands_zone once s) ∙ ap (least_from (nexts t p c) (leaves_home t) (2 * t.zones)) (stands_word s)

pub route_least_exists : {t : Track} {p : Position} {c : ℕ} → Laid t p → CanGo t p c → (r : List ℕ) × (least_route t p c ≡ some r)
route_least_exists {t} {p} {c} laid (_, route {w = w} s o) =
    let found = least_exists (nexts t p c) (leaves_home t) (2 * t.zones) (λ x y m. nexts_below t p c x y m) (stands_below t p laid s) (onward_way o) in
    (found.0, least_at t laid.once s ∙ found.1)

-- where a least route is found, its carrier is out
least_out : (t : Track) (p : Position) (c : ℕ) {r : List ℕ} → (c ≡ 0 → ⊥) → least_route t p c ≡ some r → Out p c
unfolding least_route_by
least_out t p c {r} numbered e = go (zone_for p c) refl e
  where
    go : (o : Option ℕ) → zone_for p c ≡ o → route_from t p c o ≡ some r → Out p c
    go (some z) f e = (_, zone_stands p c z numbered f)
    go none f e = absurd (let z : ◌≡◌ {A = ℕ} 0 1 = cc in omega arith)

module _ (t : Track) {p : Position} {c w : ℕ} (once : Once p) (s : Stands p c w) where
  -- what a least route is made of
  least_parts : {r : List ℕ} → least_route t p c ≡ some r → (vs : List ℕ) × (r ≡ w ∷ vs) × Way (nexts t p c) (leaves_home t) w vs × (length vs < 2 * t.zones)
  least_parts e = least_sound (nexts t p c) (leaves_home t) (2 * t.zones) w (sym (least_at t once s) ∙ e)

  least_search : {r : List ℕ} (vs : List ℕ) → least_route t p c ≡ some r → r ≡ w ∷ vs → least_from (nexts t p c) (leaves_home t) (2 * t.zones) w ≡ some (w ∷ vs)
  least_search vs e q = sym (least_at t once s) ∙ e ∙ ap {B = Option (List ℕ)} some q

  least_fewest : {r us : List ℕ} → least_route t p c ≡ some r → Onward t p c w us → length r ≤ suc (length us)
  least_fewest {r} {us} e o =
      let a = least_parts e in
      rw a.1 (suc-le-suc (least_shortest (nexts t p c) (leaves_home t) (2 * t.zones) w (least_search a.0 e a.1) (onward_way o)))

  least_first : {r us : List ℕ} → least_route t p c ≡ some r → Onward t p c w us → suc (length us) ≡ length r → (r ≡ w ∷ us) ⊎ Before r (w ∷ us)
  least_first {r} {us} e o l =
      let a = least_parts e in
      go a.0 a.1
      (least_smallest (nexts t p c) (leaves_home t) (λ v. nexts_ascending t p c v) (2 * t.zones) w (least_search a.0 e a.1) (onward_way o) (suc_inj (l ∙ ap length a.1)))
    where
      go : (vs : List ℕ) → r ≡ w ∷ vs → (vs ≡ us) ⊎ Before vs us → (r ≡ w ∷ us) ⊎ Before r (w ∷ us)
      go vs q (inl f) = inl (q ∙ ap (λ (l : List ℕ). w ∷ l) f)
      go vs q (inr b) = inr (rw q (later b))

module _ {t : Track} {p : Position} {c : ℕ} (once : Once p) (numbered : c ≡ 0 → ⊥) where
  -- the least route is a route, of at most 2 × Z words
  pub route_least_sound : {r : List ℕ} → least_route t p c ≡ some r → Route t p c r × (length r ≤ 2 * t.zones)
  route_least_sound {r} e =
      let out = least_out t p c numbered e in
      let a = least_parts t once out.1 e in
      (rw a.1 (route out.1 (way_onward a.2)), rw a.1 a.3)

  -- and no route of it is less
  pub route_least : {r : List ℕ} → least_route t p c ≡ some r → Least t p c r
  route_least {r} e = record { goes = (route_least_sound e).0; fewest = fewest; smallest = smallest }
    where
      fewest : (s : List ℕ) → Route t p c s → length r ≤ length s
      fewest s (route st o) = least_fewest t once st e o

      smallest : (s : List ℕ) → Route t p c s → length s ≡ length r → (r ≡ s) ⊎ Before r s
      smallest s (route st o) l = least_first t once st e o l

-- of lists that are equal crosswise, for the induction
before_apart : {r s a b : List ℕ} → Before r s → Before a b → s ≡ a → r ≡ b → ⊥
before_apart (differs x) (differs y) e f = let h = head-eq_of_cons-eq e in let i = head-eq_of_cons-eq f in omega arith
before_apart (differs x) (later y) e f = let h = head-eq_of_cons-eq e in let i = head-eq_of_cons-eq f in omega arith
before_apart (later x) (differs y) e f = let h = head-eq_of_cons-eq e in let i = head-eq_of_cons-eq f in omega arith
before_apart (later x) (later y) e f = before_apart x y (tail-eq_of_cons-eq e) (tail-eq_of_cons-eq f)

-- which of two lists comes first at the first difference is not both ways
pub before_once : {r s : List ℕ} → Before r s → Before s r → ⊥
before_once x y = before_apart x y refl refl

-- no route is as long as the least and smaller at the first difference
pub least_none_smaller : {t : Track} {p : Position} {c : ℕ} {r s : List ℕ} → Least t p c r → Route t p c s → length s ≡ length r → Before s r → ⊥
least_none_smaller {r = r} {s} least g l b = go (least.smallest s g l)
  where
    go : (r ≡ s) ⊎ Before r s → ⊥
    go (inl e) = let a : Before s s = rw e at b in before_once a a
    go (inr a) = before_once a b

-- whether a carrier can go is decided, for every number
pub can_go_decided : {t : Track} {p : Position} → Laid t p → (c : ℕ) → CanGo t p c ⊎ (CanGo t p c → ⊥)
can_go_decided {t} {p} laid c = zero_or (eqb c 0) refl
  where
    found : (c ≡ 0 → ⊥) → (o : Option (List ℕ)) → least_route t p c ≡ o → CanGo t p c ⊎ (CanGo t p c → ⊥)
    found n (some r) e = inl (r, (route_least_sound laid.once n e).0)
    found n none e = inr (λ g. let f = route_least_exists laid g in let z : ◌≡◌ {A = ℕ} 0 1 = cc f.1 in omega arith)

    zero_or : (b : Bool) → eqb c 0 ≡ b → CanGo t p c ⊎ (CanGo t p c → ⊥)
    zero_or true e = inr (λ g. goer_numbered g.1 (eqb-true c 0 e))
    zero_or false e = found (eqb-false c 0 e) (least_route t p c) refl

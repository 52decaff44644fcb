-- Any home's set will do: two of them have the same points, and by the test of one the collapse's list is read off at once.
-- Each is least, so each is within the other; a zone is marked merged exactly where its carrier leaves at a point of them.
use Prim.Native.Nat.{ℕ, ◌<◌}
use mathlib.Core.List.{map}
use mathlib.Core.Path.{◌≡◌, refl, sym, ◌∙◌, ap}
use mathlib.Core.Logic.{◌↔◌}
use mathlib.Core.Bool.{Bool, true, false, not, ◌&&◌}
use Rattle.model.specs.Lists.{numbers_below, keep, ascending}
use Rattle.model.specs.Track.{Track, leave}
use Rattle.model.specs.Position.{Position, at, carrier_of, is_free, standing}
use Rattle.model.specs.Accepted.{Laid}
use Rattle.model.proofs.BoolLaws.{same_test}
use Rattle.model.proofs.ListLaws.{mem_below, keep_ext}
use Rattle.rules.specs.Collapse.{merge_all, left}
use Rattle.blocking.proofs.HomeSet.{HomeSet}
use Rattle.blocking.proofs.Merging.{marked, leaves_in}
use Rattle.blocking.proofs.HomeClass.{home_class, marked_leaves}

pub home_sets_agree : {t : Track} {p : Position} {H G : ℕ → Type 0} → HomeSet t p H → HomeSet t p G → (q : ℕ) → q < t.points → H q ↔ G q
home_sets_agree {H = H} {G = G} a b q h = (a.least G b.closed q h, b.least H a.closed q h)

-- the carriers that leave at a point outside the test, by zones
pub left_by_test : {t : Track} {p : Position} → Laid t p → (inside : ℕ → Bool) → HomeSet t p (λ q. inside q ≡ true) → left t p ≡ ascending (map (λ z. carrier_of (at p z)) (keep (λ z. not (is_free p z) && not (inside (leave t (standing p z)))) (numbers_below t.zones)))
unfolding left
left_by_test {t} {p} laid inside home = ap (λ l. ascending (map (λ z. carrier_of (at p z)) l)) (keep_ext stays outside (numbers_below t.zones) (λ z i. by z (mem_below t.zones i) (is_free p z) refl))
  where
    stays : ℕ → Bool
    stays z = not (is_free p z) && not (marked (merge_all t p) z)

    outside : ℕ → Bool
    outside z = not (is_free p z) && not (inside (leave t (standing p z)))

    same : (z : ℕ) → z < t.zones → is_free p z ≡ false → marked (merge_all t p) z ≡ inside (leave t (standing p z))
    same z h f =
        let agree = home_sets_agree (home_class laid) home (leave t (standing p z)) (leaves_in laid z h) in
        same_test (marked (merge_all t p) z) (inside (leave t (standing p z))) (λ e. agree.0 ((marked_leaves laid z h f).0 e)) (λ e. (marked_leaves laid z h f).1 (agree.1 e))

    by : (z : ℕ) → z < t.zones → (b : Bool) → is_free p z ≡ b → stays z ≡ outside z
    by z h true f = ap (λ (b : Bool). not b && not (marked (merge_all t p) z)) f ∙ sym (ap (λ (b : Bool). not b && not (inside (leave t (standing p z)))) f)
    by z h false f = ap (λ (b : Bool). not (is_free p z) && not b) (same z h f)

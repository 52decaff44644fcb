-- A carrier that leaves: the zones in order that are still held are those of the carriers still out.
-- A zone is looked at before and after.
use Prim.Native.Nat.{ℕ}
use mathlib.Core.Path.{◌≡◌, refl, sym, ◌∙◌, ap, ap₂, subst}
use mathlib.Core.List.Memᴰ
use mathlib.Core.List.{List, [], ◌∷◌, Memᴰ}
use mathlib.Core.Bool.{Bool, true, false, not}
use native.Mathlib.Omega.{arith}
use lib.ListN.{take}
use lib.Dec.{eqb}
use borrow.Author.Tests.{eqb-true, eq-eqb, ne_eqb}
use Rattle.model.specs.Lists.{cons_if, keep}
use Rattle.model.specs.Position.{Position, at, carrier_of, is_free, Once, retire}
use Rattle.model.proofs.ListLaws.{keep_all}
use Rattle.model.proofs.PositionLaws.{length_without, at_without_gone, at_without_kept, free_without, mem_outs, outs_retire}
use Rattle.carriers.specs.Order.{carriers_in, Sorted}
use Rattle.search.specs.Order.{InOrder}

-- the carriers of the held zones, without the one that leaves
retire_held : (c : ℕ) (p : Position) (zs : List ℕ)
    → carriers_in (retire c p) (keep (λ z. not (is_free (retire c p) z)) zs) ≡ keep (λ d. not (eqb c d)) (carriers_in p (keep (λ z. not (is_free p z)) zs))
retire_held c p [] = refl
retire_held c p (z ∷ zs) = go (is_free p z) refl (eqb c (carrier_of (at p z))) refl (retire_held c p zs)
  where
    was : List ℕ
    was = keep (λ z. not (is_free p z)) zs

    is : List ℕ
    is = keep (λ z. not (is_free (retire c p) z)) zs

    skips : at (retire c p) z ≡ 0 → carriers_in (retire c p) (cons_if (not (is_free (retire c p) z)) z is) ≡ carriers_in (retire c p) is
    skips e = ap (λ (b : Bool). carriers_in (retire c p) (cons_if (not b) z is)) (eq-eqb (at (retire c p) z) 0 e)

    go : (f : Bool) → is_free p z ≡ f → (t : Bool) → eqb c (carrier_of (at p z)) ≡ t → carriers_in (retire c p) is ≡ keep (λ d. not (eqb c d)) (carriers_in p was)
        → carriers_in (retire c p) (cons_if (not (is_free (retire c p) z)) z is) ≡ keep (λ d. not (eqb c d)) (carriers_in p (cons_if (not f) z was))
    go true e t d ih = skips (free_without (eqb c) p z (eqb-true (at p z) 0 e)) ∙ ih
    go false e true d ih =
        skips (at_without_gone (eqb c) p z d) ∙
        ih ∙
        ap (λ (b : Bool). cons_if (not b) (carrier_of (at p z)) (keep (λ d. not (eqb c d)) (carriers_in p was))) (sym d)
    go false e false d ih =
        let kept : at (retire c p) z ≡ at p z = at_without_kept (eqb c) p z d in
        ap (λ (b : Bool). carriers_in (retire c p) (cons_if (not b) z is)) (ap (λ (v : ℕ). eqb v 0) kept ∙ e) ∙
        ap₂ (λ (v : ℕ) (l : List ℕ). carrier_of v ∷ l) kept ih ∙
        ap (λ (b : Bool). cons_if (not b) (carrier_of (at p z)) (keep (λ d. not (eqb c d)) (carriers_in p was))) (sym d)

pub in_order_retire : {p : Position} {order : List ℕ} (c : ℕ) → Once p → InOrder p order → InOrder (retire c p) order
in_order_retire {p} {order} c once o = record {
  inside = λ z m. rw length_without (o.inside z m);
  carriers = retire_held c p order ∙ ap (keep (λ d. not (eqb c d))) o.carriers ∙ sym (outs_retire c p once);
}

-- at first each of the zones in order is held
pub sorted_in_order : {p : Position} {order : List ℕ} {count : ℕ} → Sorted p order count → InOrder p (take count order)
sorted_in_order {p} {order} {count} s = record {
  inside = s.zones.inside;
  carriers = ap (carriers_in p) (keep_all (λ z. not (is_free p z)) (take count order) (λ z m. ap not (ne_eqb (at p z) 0 (held z m)))) ∙ s.carriers;
}
  where
    held : (z : ℕ) → Memᴰ z (take count order) → at p z ≡ 0 → ⊥
    held z m e =
        let out = mem_outs p (subst (λ (l : List ℕ). Memᴰ (carrier_of (at p z)) l) s.carriers (Memᴰ.map (λ z. carrier_of (at p z)) m)) in
        out.1.numbered (omega arith)

-- Laws of positions: what is left when carriers are taken off, and who is out.
-- By what stands in each zone.
use Prim.Native.Nat.{ℕ, suc, ◌+◌, ◌*◌, ◌≤◌, ◌<◌}
use mathlib.Core.Path.{◌≡◌, refl, sym, ◌∙◌, ap, ap₂, subst}
use mathlib.Core.Logic.{◌⊎◌, inl, inr, ⊎_elim}
use mathlib.Core.List.Memᴰ
use mathlib.Core.List.{List, [], ◌∷◌, map, Memᴰ}
use mathlib.Core.Bool.{Bool, true, false, not, cond}
use native.Mathlib.Nat.{suc_inj}
use native.Mathlib.Omega.{arith}
use lib.ListN.{length, get_or, set, length-map, length-set, get_or-map}
use lib.Seq.{ext_get_or, get_or-set_same, get_or-set_other}
use lib.Dec.{eqb}
use borrow.Author.Tests.{eqb-true, eqb-false, eq-eqb, ne_eqb, not-true}
use Rattle.model.specs.Lists.{cons_if, keep, Ascending}
use Rattle.model.specs.Track.{Track, zone_of, heading_of}
use Rattle.model.specs.Position.{Position, at, carrier_of, is_free, Stands, Out, Once, without, retire, outs}
use Rattle.model.specs.Accepted.{Laid}
use Rattle.model.proofs.BoolLaws.{decided}
use Rattle.model.proofs.ListLaws.{mem_keep, keep_mem, how_many_length}
use Rattle.model.proofs.AscendingLaws.{mem_ascending, ascending_mem, length_ascending, ascending_strict, ascending_unique, ascending_no_repeats, keep_ascending, NoRepeats}
use Rattle.model.proofs.PlaceLaws.{keep_one_fewer, mem_get_or, get_or_mem}
use Rattle.model.proofs.WordLaws.{below_zone, carrier_word, heading_small, heading_word, word_parts}

-- what is left when carriers are taken off

kept_zero : (t : Bool) → ◌≡◌ {A = ℕ} (cond t 0 0) 0
kept_zero true = refl
kept_zero false = refl

pub length_without : (g : ℕ → Bool) (p : Position) → length (without g p) ≡ length p
length_without g p = length-map p (λ v. cond (g (carrier_of v)) 0 v)

pub at_without : (g : ℕ → Bool) (p : Position) (z : ℕ) → at (without g p) z ≡ cond (g (carrier_of (at p z))) 0 (at p z)
at_without g p z = ap (λ (d : ℕ). get_or (without g p) z d) (sym (kept_zero (g (carrier_of 0)))) ∙ get_or-map (λ v. cond (g (carrier_of v)) 0 v) p z 0

pub at_without_gone : (g : ℕ → Bool) (p : Position) (z : ℕ) → g (carrier_of (at p z)) ≡ true → at (without g p) z ≡ 0
at_without_gone g p z e = at_without g p z ∙ ap (λ (t : Bool). cond t 0 (at p z)) e

pub at_without_kept : (g : ℕ → Bool) (p : Position) (z : ℕ) → g (carrier_of (at p z)) ≡ false → at (without g p) z ≡ at p z
at_without_kept g p z e = at_without g p z ∙ ap (λ (t : Bool). cond t 0 (at p z)) e

-- a zone is as it was, or was its carrier's that was taken off and is free
pub without_cases : (g : ℕ → Bool) (p : Position) (z : ℕ) → (at (without g p) z ≡ at p z) ⊎ ((g (carrier_of (at p z)) ≡ true) × (at (without g p) z ≡ 0))
without_cases g p z = go (decided (g (carrier_of (at p z))))
  where
    go : (g (carrier_of (at p z)) ≡ true) ⊎ (g (carrier_of (at p z)) ≡ false) → (at (without g p) z ≡ at p z) ⊎ ((g (carrier_of (at p z)) ≡ true) × (at (without g p) z ≡ 0))
    go (inl e) = inr (e, at_without_gone g p z e)
    go (inr e) = inl (at_without_kept g p z e)

pub free_without : (g : ℕ → Bool) (p : Position) (z : ℕ) → at p z ≡ 0 → at (without g p) z ≡ 0
free_without g p z e = ⊎_elim (λ q. q ∙ e) (λ q. q.1) (without_cases g p z)

pub stands_carrier : {p : Position} {c w : ℕ} → Stands p c w → carrier_of (at p (zone_of w)) ≡ c
stands_carrier {p} {c} {w} s = ap carrier_of s.holds ∙ carrier_word c (heading_of w) (heading_small w)

pub stands_heading : {p : Position} {c w : ℕ} → Stands p c w → heading_of (at p (zone_of w)) ≡ heading_of w
stands_heading {p} {c} {w} s = ap heading_of s.holds ∙ heading_word c (heading_of w) (heading_small w)

-- the standing is read off its zone
pub stands_word : {p : Position} {c w : ℕ} → Stands p c w → 2 * zone_of w + heading_of (at p (zone_of w)) ≡ w
stands_word {p} {c} {w} s = ap (λ (h : ℕ). 2 * zone_of w + h) (stands_heading s) ∙ word_parts w

pub stands_held : {p : Position} {c w : ℕ} → Stands p c w → at p (zone_of w) ≡ 0 → ⊥
stands_held {p} {c} {w} s e = s.numbered (omega (arith, s.holds))

-- a zone where a carrier stands is not free
pub stands_not_free : {p : Position} {c w : ℕ} → Stands p c w → is_free p (zone_of w) ≡ false
stands_not_free {p} {c} {w} s = ne_eqb (at p (zone_of w)) 0 (stands_held s)

-- one zone, one carrier
pub stands_same : {p : Position} {c d v w : ℕ} → Stands p c v → Stands p d w → zone_of v ≡ zone_of w → (c ≡ d) × (v ≡ w)
stands_same {p} {c} {d} {v} {w} r s e =
    let a : at p (zone_of v) ≡ at p (zone_of w) = ap (at p) e in
    (sym (stands_carrier r) ∙ ap carrier_of a ∙ stands_carrier s, sym (stands_word r) ∙ ap₂ (λ (z x : ℕ). 2 * z + heading_of x) e a ∙ stands_word s)

pub without_stands : (g : ℕ → Bool) {p : Position} {c w : ℕ} → Stands p c w → g c ≡ false → Stands (without g p) c w
without_stands g {p} {c} {w} s e = record {
  numbered = s.numbered;
  inside = rw length_without s.inside;
  holds = at_without_kept g p (zone_of w) (ap g (stands_carrier s) ∙ e) ∙ s.holds;
}

pub stands_without : (g : ℕ → Bool) (p : Position) {c w : ℕ} → Stands (without g p) c w → Stands p c w × (g c ≡ false)
stands_without g p {c} {w} s = go (without_cases g p (zone_of w)) (decided (g c))
  where
    inside : zone_of w < length p
    inside = rw length_without at s.inside

    go : (at (without g p) (zone_of w) ≡ at p (zone_of w)) ⊎ ((g (carrier_of (at p (zone_of w))) ≡ true) × (at (without g p) (zone_of w) ≡ 0)) → (g c ≡ true) ⊎ (g c ≡ false) → Stands p c w × (g c ≡ false)
    go (inr q) d = absurd (stands_held s q.1)
    go (inl q) (inr d) = (record { numbered = s.numbered; inside = inside; holds = sym q ∙ s.holds }, d)
    go (inl q) (inl d) =
        absurd (stands_held s (at_without_gone g p (zone_of w) (ap g (ap carrier_of (sym q) ∙ stands_carrier s) ∙ d)))

pub once_without : (g : ℕ → Bool) (p : Position) → Once p → Once (without g p)
once_without g p o c w v r s = o c w v (stands_without g p r).0 (stands_without g p s).0

pub laid_without : (t : Track) (g : ℕ → Bool) (p : Position) → Laid t p → Laid t (without g p)
laid_without t g p l = record {
  each = length_without g p ∙ l.each;
  once = once_without g p l.once;
  free_heading = λ z e. ⊎_elim (λ q. l.free_heading z (sym q ∙ e)) (λ q. let f : at (without g p) z ≡ 0 = q.1 in omega arith) (without_cases g p z);
  inside = l.inside;
  home_in = l.home_in;
}

pub once_retire : (c : ℕ) (p : Position) → Once p → Once (retire c p)
once_retire c p = once_without (eqb c) p

pub laid_retire : (t : Track) (c : ℕ) (p : Position) → Laid t p → Laid t (retire c p)
laid_retire t c p = laid_without t (eqb c) p

-- one carrier taken off leaves the others where they stand
pub stands_retire : (d : ℕ) (p : Position) {c w : ℕ} → Stands (retire d p) c w → Stands p c w × (d ≡ c → ⊥)
stands_retire d p {c} s = let r = stands_without (eqb d) p s in (r.0, eqb-false d c r.1)

pub retire_stands : (d : ℕ) {p : Position} {c w : ℕ} → Stands p c w → (d ≡ c → ⊥) → Stands (retire d p) c w
retire_stands d {c = c} s n = without_stands (eqb d) s (ne_eqb d c n)

-- who is out

-- what stands in a held zone
pub held_stands : (p : Position) (z : ℕ) → z < length p → (carrier_of (at p z) ≡ 0 → ⊥) → Stands p (carrier_of (at p z)) (2 * z + heading_of (at p z))
held_stands p z h n = record { numbered = n; inside = subst (λ (k : ℕ). k < length p) (sym zone) h; holds = ap (at p) zone ∙ parts }
  where
    zone : zone_of (2 * z + heading_of (at p z)) ≡ z
    zone = omega arith

    parts : at p z ≡ 2 * carrier_of (at p z) + heading_of (2 * z + heading_of (at p z))
    parts = omega arith

module _ (t : Track) (p : Position) (l : Laid t p) where
  -- a zone that holds a number holds a carrier
  pub laid_numbered : (z : ℕ) → (at p z ≡ 0 → ⊥) → carrier_of (at p z) ≡ 0 → ⊥
  laid_numbered z n e = let k : at p z ≡ 1 → ⊥ = l.free_heading z in omega arith

  pub laid_inside : (z : ℕ) → z < t.zones → z < length p
  laid_inside z h = subst (λ (k : ℕ). z < k) (sym l.each) h

  pub laid_stands : (z : ℕ) → z < t.zones → is_free p z ≡ false → Stands p (carrier_of (at p z)) (2 * z + heading_of (at p z))
  laid_stands z h e = held_stands p z (laid_inside z h) (laid_numbered z (eqb-false (at p z) 0 e))

  -- a standing is a word of the track
  pub stands_below : {c w : ℕ} → Stands p c w → w < 2 * t.zones
  stands_below {c} {w} s = below_zone t.zones w (subst (λ (k : ℕ). zone_of w < k) l.each s.inside)

pub mem_outs : (p : Position) {c : ℕ} → Memᴰ c (outs p) → Out p c
mem_outs p {c} m =
    let k = mem_keep (λ c. not (eqb c 0)) (map carrier_of p) (mem_ascending (keep (λ c. not (eqb c 0)) (map carrier_of p)) m) in
    let v = Memᴰ.of_map carrier_of p k.0 in
    let i = mem_get_or 0 v.1 in
    let e : carrier_of (at p i.0) ≡ c = ap carrier_of i.2 ∙ v.2 in
    (2 * i.0 + heading_of (at p i.0), subst (λ (x : ℕ). Stands p x (2 * i.0 + heading_of (at p i.0))) e (held_stands p i.0 i.1 (λ q. eqb-false c 0 (not-true (eqb c 0) k.1) (sym e ∙ q))))

pub outs_mem : (p : Position) {c : ℕ} → Out p c → Memᴰ c (outs p)
outs_mem p {c} o =
    let w : ℕ = o.0 in
    let s : Stands p c w = o.1 in
    ascending_mem (keep_mem (λ c. not (eqb c 0)) (Memᴰ.cast (sym (stands_carrier s)) (Memᴰ.map carrier_of (get_or_mem 0 p (zone_of w) s.inside))) (ap not (ne_eqb c 0 s.numbered)))

-- no two zones of a list hold one carrier
abbrev ZonesApart : Position → Type 0
ZonesApart p = (i j : ℕ) → i < length p → j < length p → (carrier_of (at p i) ≡ 0 → ⊥) → carrier_of (at p i) ≡ carrier_of (at p j) → i ≡ j

once_apart : (p : Position) → Once p → ZonesApart p
once_apart p o i j h k n e = omega (arith, same, heading_small (at p i), heading_small (at p j))
  where
    other : Stands p (carrier_of (at p i)) (2 * j + heading_of (at p j))
    other = subst (λ (c : ℕ). Stands p c (2 * j + heading_of (at p j))) (sym e) (held_stands p j k (λ q. n (e ∙ q)))

    same : 2 * i + heading_of (at p i) ≡ 2 * j + heading_of (at p j)
    same = o (carrier_of (at p i)) (2 * i + heading_of (at p i)) (2 * j + heading_of (at p j)) (held_stands p i h n) other

-- to take a carrier off is to free its zone: it stands in no other
pub retire_set : {p : Position} {c w : ℕ} → Once p → Stands p c w → retire c p ≡ set p (zone_of w) 0
retire_set {p} {c} {w} once s =
    ext_get_or 0 (retire c p) (set p (zone_of w) 0) (length_without (eqb c) p ∙ sym (length-set p (zone_of w) 0)) (λ z h. go z (rw length_without at h) (eqb z (zone_of w)) refl)
  where
    here : carrier_of (at p (zone_of w)) ≡ c
    here = stands_carrier s

    go : (z : ℕ) → z < length p → (t : Bool) → eqb z (zone_of w) ≡ t → at (retire c p) z ≡ at (set p (zone_of w) 0) z
    go z h true e =
        subst (λ (y : ℕ). at (retire c p) y ≡ at (set p (zone_of w) 0) y) (sym (eqb-true z (zone_of w) e))
        (at_without_gone (eqb c) p (zone_of w) (eq-eqb c (carrier_of (at p (zone_of w))) (sym here)) ∙ sym (get_or-set_same p (zone_of w) 0 0 s.inside))
    go z h false e =
        let n : z ≡ zone_of w → ⊥ = eqb-false z (zone_of w) e in
        let other : c ≡ carrier_of (at p z) → ⊥ = λ q. n (sym (once_apart p once (zone_of w) z s.inside h (λ k. s.numbered (sym here ∙ k)) (here ∙ q))) in
        at_without_kept (eqb c) p z (ne_eqb c (carrier_of (at p z)) other) ∙ sym (get_or-set_other p (zone_of w) z 0 0 n)

apart_no_repeats : (p : Position) → ZonesApart p → NoRepeats (keep (λ c. not (eqb c 0)) (map carrier_of p))
apart_no_repeats [] a = tt
apart_no_repeats (v ∷ p) a = go (eqb (carrier_of v) 0) refl (apart_no_repeats p (λ i j h k n e. suc_inj (a (suc i) (suc j) (omega arith) (omega arith) n e)))
  where
    twice : (carrier_of v ≡ 0 → ⊥) → Memᴰ (carrier_of v) (keep (λ c. not (eqb c 0)) (map carrier_of p)) → ⊥
    twice n m =
        let k = mem_keep (λ c. not (eqb c 0)) (map carrier_of p) m in
        let u = Memᴰ.of_map carrier_of p k.0 in
        let i = mem_get_or 0 u.1 in
        let q : 0 ≡ suc i.0 = a 0 (suc i.0) (omega arith) (omega (arith, i.1)) n (sym u.2 ∙ ap carrier_of (sym i.2)) in
        omega arith

    go : (t : Bool) → eqb (carrier_of v) 0 ≡ t → NoRepeats (keep (λ c. not (eqb c 0)) (map carrier_of p)) → NoRepeats (cons_if (not t) (carrier_of v) (keep (λ c. not (eqb c 0)) (map carrier_of p)))
    go true e ih = ih
    go false e ih = (twice (eqb-false (carrier_of v) 0 e), ih)

pub outs_ascending : (p : Position) → Once p → Ascending (outs p)
outs_ascending p o = ascending_strict (keep (λ c. not (eqb c 0)) (map carrier_of p)) (apart_no_repeats p (once_apart p o))

-- at most as many are out as there are zones
pub outs_most : (p : Position) → length (outs p) ≤ length p
outs_most p =
    omega
    (arith, length_ascending (keep (λ c. not (eqb c 0)) (map carrier_of p)), how_many_length (λ c. not (eqb c 0)) (map carrier_of p), length-map p carrier_of)

pub outs_without : (g : ℕ → Bool) (p : Position) → Once p → outs (without g p) ≡ keep (λ c. not (g c)) (outs p)
outs_without g p o =
    ascending_unique (outs (without g p)) (keep (λ c. not (g c)) (outs p)) (outs_ascending (without g p) (once_without g p o)) (keep_ascending (λ c. not (g c)) (outs p) (outs_ascending p o)) there back
  where
    there : (c : ℕ) → Memᴰ c (outs (without g p)) → Memᴰ c (keep (λ c. not (g c)) (outs p))
    there c m =
        let u = mem_outs (without g p) m in
        let r = stands_without g p u.1 in
        keep_mem (λ c. not (g c)) (outs_mem p (u.0, r.0)) (ap not r.1)

    back : (c : ℕ) → Memᴰ c (keep (λ c. not (g c)) (outs p)) → Memᴰ c (outs (without g p))
    back c m =
        let k = mem_keep (λ c. not (g c)) (outs p) m in
        let u = mem_outs p k.0 in
        outs_mem (without g p) (u.0, without_stands g u.1 (not-true (g c) k.1))

pub outs_retire : (c : ℕ) (p : Position) → Once p → outs (retire c p) ≡ keep (λ d. not (eqb c d)) (outs p)
outs_retire c p o = outs_without (eqb c) p o

-- one fewer is out
pub outs_retire_length : (c : ℕ) (p : Position) → Once p → Out p c → length (outs (retire c p)) + 1 ≡ length (outs p)
outs_retire_length c p o u = ap (λ (k : List ℕ). length k + 1) (outs_retire c p o) ∙ keep_one_fewer c (outs p) (ascending_no_repeats (outs p) (outs_ascending p o)) (outs_mem p u)

-- Laws of labels: two points have one label after joins exactly when old labels and the joined zones tie them together.
-- One law for one join; then by induction over the zones joined. Parts are those linked over zones that pass.
use Prim.Native.Nat.{ℕ, ◌*◌, ◌<◌}
use mathlib.Core.Path.{◌≡◌, refl, sym, ◌∙◌, ap, subst}
use mathlib.Core.Logic.{◌⊎◌, inl, inr}
use mathlib.Core.List.Memᴰ
use mathlib.Core.List.{List, [], ◌∷◌, Memᴰ, foldl}
use mathlib.Core.Bool.{Bool, true, false, cond}
use native.Mathlib.Omega.{arith}
use lib.ListN.{length, length-map}
use lib.Dec.{eqb}
use borrow.Author.Tests.{eqb-true, eqb-false, ne_eqb}
use Rattle.model.specs.Lists.{numbers_below, keep}
use Rattle.model.specs.Track.{Track, zone_of, rev, start, leave, Linked, here, over}
use Rattle.model.specs.Labels.{label, join_points, join_zone, join_zones, parts}
use Rattle.model.proofs.BoolLaws.{decided}
use Rattle.model.proofs.PlaceLaws.{get_or_map}
use Rattle.model.proofs.ListLaws.{get_or_below, length_below, mem_below, below_mem, mem_keep, keep_mem}
use Rattle.model.proofs.WordLaws.{rev_below, leave_rev, zone_below, same_zone}
use Rattle.model.proofs.LinkLaws.{linked_trans, linked_sym, linked_same, linked_word}

-- one join

module _ (ls : List ℕ) (p q : ℕ) where
  pub length_join : length (join_points ls p q) ≡ length ls
  unfolding join_points
  length_join = length-map ls (λ l. cond (eqb l (label ls p)) (label ls q) l)

  pub label_join : (r : ℕ) → r < length ls → label (join_points ls p q) r ≡ cond (eqb (label ls r) (label ls p)) (label ls q) (label ls r)
  unfolding join_points
  label_join r h = get_or_map (λ l. cond (eqb l (label ls p)) (label ls q) l) ls 0 0 r h

  -- r has the label of p or of q
  abbrev pub InJoin : ℕ → Type 0
  InJoin r = (label ls r ≡ label ls p) ⊎ (label ls r ≡ label ls q)

  pub label_join_in : (r : ℕ) → r < length ls → InJoin r → label (join_points ls p q) r ≡ label ls q
  label_join_in r h i = label_join r h ∙ go (decided (eqb (label ls r) (label ls p))) i
    where
      go : (eqb (label ls r) (label ls p) ≡ true) ⊎ (eqb (label ls r) (label ls p) ≡ false) → InJoin r → cond (eqb (label ls r) (label ls p)) (label ls q) (label ls r) ≡ label ls q
      go (inl e) i = ap (λ (t : Bool). cond t (label ls q) (label ls r)) e
      go (inr e) (inl d) = absurd (eqb-false (label ls r) (label ls p) e d)
      go (inr e) (inr d) = ap (λ (t : Bool). cond t (label ls q) (label ls r)) e ∙ d

  pub label_join_out : (r : ℕ) → r < length ls → (label ls r ≡ label ls p → ⊥) → label (join_points ls p q) r ≡ label ls r
  label_join_out r h n = label_join r h ∙ ap (λ (t : Bool). cond t (label ls q) (label ls r)) (ne_eqb (label ls r) (label ls p) n)

  pub join_same : (r s : ℕ) → r < length ls → s < length ls → label (join_points ls p q) r ≡ label (join_points ls p q) s → (label ls r ≡ label ls s) ⊎ (InJoin r × InJoin s)
  join_same r s h k e = go (decided (eqb (label ls r) (label ls p))) (decided (eqb (label ls s) (label ls p)))
    where
      go : (eqb (label ls r) (label ls p) ≡ true) ⊎ (eqb (label ls r) (label ls p) ≡ false) → (eqb (label ls s) (label ls p) ≡ true) ⊎ (eqb (label ls s) (label ls p) ≡ false) → (label ls r ≡ label ls s) ⊎ (InJoin r × InJoin s)
      go (inl a) (inl b) = inl (eqb-true (label ls r) (label ls p) a ∙ sym (eqb-true (label ls s) (label ls p) b))
      go (inl a) (inr b) =
          let c : label ls r ≡ label ls p = eqb-true (label ls r) (label ls p) a in
          inr (inl c, inr (sym (label_join_out s k (eqb-false (label ls s) (label ls p) b)) ∙ sym e ∙ label_join_in r h (inl c)))
      go (inr a) (inl b) =
          let c : label ls s ≡ label ls p = eqb-true (label ls s) (label ls p) b in
          inr (inr (sym (label_join_out r h (eqb-false (label ls r) (label ls p) a)) ∙ e ∙ label_join_in s k (inl c)), inl c)
      go (inr a) (inr b) = inl (sym (label_join_out r h (eqb-false (label ls r) (label ls p) a)) ∙ e ∙ label_join_out s k (eqb-false (label ls s) (label ls p) b))

  pub same_join : (r s : ℕ) → r < length ls → s < length ls → (label ls r ≡ label ls s) ⊎ (InJoin r × InJoin s) → label (join_points ls p q) r ≡ label (join_points ls p q) s
  same_join r s h k (inl e) = label_join r h ∙ ap (λ (l : ℕ). cond (eqb l (label ls p)) (label ls q) l) e ∙ sym (label_join s k)
  same_join r s h k (inr i) = label_join_in r h i.0 ∙ sym (label_join_in s k i.1)

-- points with one label before, and the two ends of each zone of the list, are tied; and so is what is tied to what is tied
pub data Tied (t : Track) (ls zs : List ℕ) : ℕ → ℕ → Type 0 where
  alike : {r s : ℕ} → r < length ls → s < length ls → label ls r ≡ label ls s → Tied t ls zs r s
  ends : (z : ℕ) → Memᴰ z zs → Tied t ls zs (start t (2 * z)) (leave t (2 * z))
  back : {r s : ℕ} → Tied t ls zs r s → Tied t ls zs s r
  onward : {r s u : ℕ} → Tied t ls zs r s → Tied t ls zs s u → Tied t ls zs r u

module _ (t : Track) where
  -- both ends of each zone of the list have labels
  abbrev pub EndsIn : List ℕ → ℕ → Type 0
  EndsIn zs n = (z : ℕ) → Memᴰ z zs → (start t (2 * z) < n) × (leave t (2 * z) < n)

  -- a relation that goes both ways and onward, and holds of like labels and of the ends of zones, holds of all that is tied
  pub tied_least : {ls zs : List ℕ} (R : ℕ → ℕ → Type 0)
      → ((r s : ℕ) → r < length ls → s < length ls → label ls r ≡ label ls s → R r s)
      → ((z : ℕ) → Memᴰ z zs → R (start t (2 * z)) (leave t (2 * z)))
      → ((r s : ℕ) → R r s → R s r)
      → ((r s u : ℕ) → R r s → R s u → R r u)
      → {r s : ℕ} → Tied t ls zs r s → R r s
  tied_least R a e b o (alike {r = r} {s = s} h k q) = a r s h k q
  tied_least R a e b o (ends z m) = e z m
  tied_least R a e b o (back {r = r} {s = s} x) = b r s (tied_least R a e b o x)
  tied_least R a e b o (onward {r = r} {s = s} {u = u} x y) = o r s u (tied_least R a e b o x) (tied_least R a e b o y)

  -- a set that holds both or neither of like points and of the ends of zones holds both or neither of what is tied
  pub tied_keeps : {ls zs : List ℕ} (P : ℕ → Type 0)
      → ((r s : ℕ) → r < length ls → s < length ls → label ls r ≡ label ls s → P r → P s)
      → ((z : ℕ) → Memᴰ z zs → (P (start t (2 * z)) → P (leave t (2 * z))) × (P (leave t (2 * z)) → P (start t (2 * z))))
      → {r s : ℕ} → Tied t ls zs r s → (P r → P s) × (P s → P r)
  tied_keeps P a e = tied_least (λ r s. (P r → P s) × (P s → P r)) (λ r s h k q. (a r s h k q, a s r k h (sym q))) e (λ _ _ x. (x.1, x.0)) (λ _ _ _ x y. (λ b. y.0 (x.0 b), λ b. x.1 (y.1 b)))

  pub length_joins : (ls zs : List ℕ) → length (foldl (join_zone t) ls zs) ≡ length ls
  length_joins ls [] = refl
  length_joins ls (z ∷ zs) = length_joins (join_zone t ls z) zs ∙ length_join ls (start t (2 * z)) (leave t (2 * z))

  module _ (ls : List ℕ) (z : ℕ) (zs : List ℕ) (i : EndsIn (z ∷ zs) (length ls)) where
    abbrev end_a : ℕ
    end_a = start t (2 * z)

    abbrev end_b : ℕ
    end_b = leave t (2 * z)

    a_in : end_a < length ls
    a_in = (i z (Memᴰ.head refl)).0

    b_in : end_b < length ls
    b_in = (i z (Memᴰ.head refl)).1

    to_start : (r : ℕ) → r < length ls → InJoin ls end_a end_b r → Tied t ls (z ∷ zs) r end_a
    to_start r h (inl e) = alike h a_in e
    to_start r h (inr e) = onward (alike h b_in e) (back (ends z (Memᴰ.head refl)))

    shorter : (r : ℕ) → r < length (join_points ls end_a end_b) → r < length ls
    shorter r h = subst (λ (n : ℕ). r < n) (length_join ls end_a end_b) h

    longer : (r : ℕ) → r < length ls → r < length (join_points ls end_a end_b)
    longer r h = subst (λ (n : ℕ). r < n) (sym (length_join ls end_a end_b)) h

    untie : {r s : ℕ} → Tied t (join_points ls end_a end_b) zs r s → Tied t ls (z ∷ zs) r s
    untie = tied_least (Tied t ls (z ∷ zs)) same (λ y m. ends y (Memᴰ.tail m)) (λ _ _ x. back x) (λ _ _ _ x y. onward x y)
      where
        go : (r s : ℕ) → r < length ls → s < length ls → (label ls r ≡ label ls s) ⊎ (InJoin ls end_a end_b r × InJoin ls end_a end_b s) → Tied t ls (z ∷ zs) r s
        go r s h k (inl e) = alike h k e
        go r s h k (inr j) = onward (to_start r h j.0) (back (to_start s k j.1))

        same : (r s : ℕ) → r < length (join_points ls end_a end_b) → s < length (join_points ls end_a end_b) → label (join_points ls end_a end_b) r ≡ label (join_points ls end_a end_b) s → Tied t ls (z ∷ zs) r s
        same r s h k e = go r s (shorter r h) (shorter s k) (join_same ls end_a end_b r s (shorter r h) (shorter s k) e)

    tie : {r s : ℕ} → Tied t ls (z ∷ zs) r s → Tied t (join_points ls end_a end_b) zs r s
    tie = tied_least (Tied t (join_points ls end_a end_b) zs) same (λ y m. zone y (Memᴰ.cases_cons m)) (λ _ _ x. back x) (λ _ _ _ x y. onward x y)
      where
        same : (r s : ℕ) → r < length ls → s < length ls → label ls r ≡ label ls s → Tied t (join_points ls end_a end_b) zs r s
        same r s h k e = alike (longer r h) (longer s k) (same_join ls end_a end_b r s h k (inl e))

        joined : Tied t (join_points ls end_a end_b) zs end_a end_b
        joined = alike (longer end_a a_in) (longer end_b b_in) (same_join ls end_a end_b end_a end_b a_in b_in (inr (inl refl, inr refl)))

        zone : (y : ℕ) → (y ≡ z) ⊎ Memᴰ y zs → Tied t (join_points ls end_a end_b) zs (start t (2 * y)) (leave t (2 * y))
        zone y (inl e) = subst (λ (x : ℕ). Tied t (join_points ls end_a end_b) zs (start t (2 * x)) (leave t (2 * x))) (sym e) joined
        zone y (inr m) = ends y m

  tied_none : (ls : List ℕ) {r s : ℕ} → Tied t ls [] r s → label ls r ≡ label ls s
  tied_none ls = tied_least (λ r s. label ls r ≡ label ls s) (λ _ _ _ _ e. e) (λ z m. absurd (Memᴰ.not-nil m)) (λ _ _ a. sym a) (λ _ _ _ a b. a ∙ b)

  ends_in_rest : (ls : List ℕ) (z : ℕ) (zs : List ℕ) → EndsIn (z ∷ zs) (length ls) → EndsIn zs (length (join_zone t ls z))
  ends_in_rest ls z zs i y m = let b = i y (Memᴰ.tail m) in (longer ls z zs i (start t (2 * y)) b.0, longer ls z zs i (leave t (2 * y)) b.1)

  -- after any list of zones joined
  pub joins_tied : (ls zs : List ℕ) → EndsIn zs (length ls) → (r s : ℕ) → r < length ls → s < length ls → label (foldl (join_zone t) ls zs) r ≡ label (foldl (join_zone t) ls zs) s → Tied t ls zs r s
  joins_tied ls [] i r s h k e = alike h k e
  joins_tied ls (z ∷ zs) i r s h k e = untie ls z zs i (joins_tied (join_zone t ls z) zs (ends_in_rest ls z zs i) r s (longer ls z zs i r h) (longer ls z zs i s k) e)

  pub tied_joins : (ls zs : List ℕ) → EndsIn zs (length ls) → {r s : ℕ} → Tied t ls zs r s → label (foldl (join_zone t) ls zs) r ≡ label (foldl (join_zone t) ls zs) s
  tied_joins ls [] i a = tied_none ls a
  tied_joins ls (z ∷ zs) i a = tied_joins (join_zone t ls z) zs (ends_in_rest ls z zs i) (tie ls z zs i a)

  -- the zones that pass
  abbrev pub passing : (ℕ → Bool) → List ℕ
  passing passes = keep passes (numbers_below t.zones)

  pub length_join_zones : (passes : ℕ → Bool) (ls : List ℕ) → length (join_zones t passes ls) ≡ length ls
  unfolding join_zones
  length_join_zones passes ls = length_joins ls (passing passes)

  pub length_parts : (passes : ℕ → Bool) → length (parts t passes) ≡ t.points
  unfolding parts
  length_parts passes = length_join_zones passes (numbers_below t.points) ∙ length_below t.points

  module _ (inside : (w : ℕ) → w < 2 * t.zones → start t w < t.points) where
    pub ends_in : (passes : ℕ → Bool) (n : ℕ) → n ≡ t.points → EndsIn (passing passes) n
    ends_in passes n e z m =
        let b : z < t.zones = mem_below t.zones (mem_keep passes (numbers_below t.zones) m).0 in
        (subst (λ (k : ℕ). start t (2 * z) < k) (sym e) (inside (2 * z) (omega arith)), subst (λ (k : ℕ). leave t (2 * z) < k) (sym e) (inside (rev (2 * z)) (rev_below t.zones (2 * z) (omega arith))))

    pub join_zones_tied : (passes : ℕ → Bool) (ls : List ℕ) → length ls ≡ t.points → (r s : ℕ) → r < t.points → s < t.points → label (join_zones t passes ls) r ≡ label (join_zones t passes ls) s → Tied t ls (passing passes) r s
    unfolding join_zones
    join_zones_tied passes ls n r s h k e = joins_tied ls (passing passes) (ends_in passes (length ls) n) r s (rw n h) (rw n k) e

    pub tied_join_zones : (passes : ℕ → Bool) (ls : List ℕ) → length ls ≡ t.points → {r s : ℕ} → Tied t ls (passing passes) r s → label (join_zones t passes ls) r ≡ label (join_zones t passes ls) s
    unfolding join_zones
    tied_join_zones passes ls n a = tied_joins ls (passing passes) (ends_in passes (length ls) n) a

    tied_linked : (passes : ℕ → Bool) {r s : ℕ} → Tied t (numbers_below t.points) (passing passes) r s → Linked t (λ z. passes z ≡ true) r s
    tied_linked passes = tied_least (Linked t (λ z. passes z ≡ true)) same zone (λ _ _ a. linked_sym t a) (λ _ _ _ a b. linked_trans t a b)
      where
        same : (r s : ℕ) → r < length (numbers_below t.points) → s < length (numbers_below t.points) → label (numbers_below t.points) r ≡ label (numbers_below t.points) s → Linked t (λ z. passes z ≡ true) r s
        same r s h k e = linked_same t (sym (get_or_below t.points r 0 (rw length_below at h)) ∙ e ∙ get_or_below t.points s 0 (rw length_below at k))

        zone : (z : ℕ) → Memᴰ z (passing passes) → Linked t (λ z. passes z ≡ true) (start t (2 * z)) (leave t (2 * z))
        zone z m =
            let k = mem_keep passes (numbers_below t.zones) m in
            let b : z < t.zones = mem_below t.zones k.0 in
            let q : zone_of (2 * z) ≡ z = omega arith in
            linked_word t (2 * z) (omega arith) (ap passes q ∙ k.1)

    -- what is tied over the zones that pass, each point a part alone before
    abbrev TiedOver : (ℕ → Bool) → ℕ → ℕ → Type 0
    TiedOver passes = Tied t (numbers_below t.points) (passing passes)

    word_tied : (passes : ℕ → Bool) (w : ℕ) → w < 2 * t.zones → passes (zone_of w) ≡ true → TiedOver passes (start t w) (leave t w)
    word_tied passes w b f = go (same_zone w (2 * zone_of w) (omega arith))
      where
        across : TiedOver passes (start t (2 * zone_of w)) (leave t (2 * zone_of w))
        across = ends (zone_of w) (keep_mem passes (below_mem t.zones (zone_of w) (zone_below t.zones w b)) f)

        other : TiedOver passes (leave t (2 * zone_of w)) (leave t (rev (2 * zone_of w)))
        other = subst (TiedOver passes (leave t (2 * zone_of w))) (sym (leave_rev t (2 * zone_of w))) (back across)

        go : (w ≡ 2 * zone_of w) ⊎ (w ≡ rev (2 * zone_of w)) → TiedOver passes (start t w) (leave t w)
        go (inl q) = subst (λ (x : ℕ). TiedOver passes (start t x) (leave t x)) (sym q) across
        go (inr q) = subst (λ (x : ℕ). TiedOver passes (start t x) (leave t x)) (sym q) other

    linked_tied : (passes : ℕ → Bool) {r s : ℕ} → r < t.points → Linked t (λ z. passes z ≡ true) r s → TiedOver passes r s
    linked_tied passes {r} h here = let k : r < length (numbers_below t.points) = rw length_below h in alike k k refl
    linked_tied passes h (over w b f e l) = onward (subst (λ (x : ℕ). TiedOver passes x (leave t w)) e (word_tied passes w b f)) (linked_tied passes (inside (rev w) (rev_below t.zones w b)) l)

    -- points have one label exactly when they are linked over zones that pass
    pub parts_linked : (passes : ℕ → Bool) (p q : ℕ) → p < t.points → q < t.points → label (parts t passes) p ≡ label (parts t passes) q → Linked t (λ z. passes z ≡ true) p q
    unfolding parts
    parts_linked passes p q h k e = tied_linked passes (join_zones_tied passes (numbers_below t.points) (length_below t.points) p q h k e)

    pub linked_parts : (passes : ℕ → Bool) (p q : ℕ) → p < t.points → Linked t (λ z. passes z ≡ true) p q → label (parts t passes) p ≡ label (parts t passes) q
    unfolding parts
    linked_parts passes p q h l = tied_join_zones passes (numbers_below t.points) (length_below t.points) (linked_tied passes h l)

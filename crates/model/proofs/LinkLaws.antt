-- Laws of links over zones: transitive, symmetric by the reversed word, and within the points.
-- By induction over the link.
use Prim.Native.Nat.{ℕ, ◌*◌, ◌<◌}
use mathlib.Core.Path.{◌≡◌, refl, sym, ◌∙◌, subst}
use Rattle.model.specs.Track.{Track, zone_of, rev, start, leave, Linked, here, over}
use Rattle.model.proofs.WordLaws.{leave_rev, rev_below, zone_below, zone_rev}

-- links

module _ (t : Track) {passes : ℕ → Type 0} where
  pub linked_trans : {p q r : ℕ} → Linked t passes p q → Linked t passes q r → Linked t passes p r
  linked_trans here k = k
  linked_trans (over w h f e l) k = over w h f e (linked_trans l k)

  pub linked_word : (w : ℕ) → w < 2 * t.zones → passes (zone_of w) → Linked t passes (start t w) (leave t w)
  linked_word w h f = over w h f refl here

  pub linked_sym : {p q : ℕ} → Linked t passes p q → Linked t passes q p
  linked_sym here = here
  linked_sym {p} (over w h f e l) = linked_trans (linked_sym l) (over (rev w) (rev_below t.zones w h) (subst passes (sym (zone_rev w)) f) refl end)
    where
      end : Linked t passes (leave t (rev w)) p
      end = subst (λ (x : ℕ). Linked t passes x p) (sym (leave_rev t w ∙ e)) here

  pub linked_same : {p q : ℕ} → p ≡ q → Linked t passes p q
  linked_same {p} e = subst (Linked t passes p) e here

  -- zones that pass one rule and the other alike
  pub linked_mono : {allows : ℕ → Type 0} → ((z : ℕ) → z < t.zones → passes z → allows z) → {p q : ℕ} → Linked t passes p q → Linked t allows p q
  linked_mono h here = here
  linked_mono h (over w b f e l) = over w b (h (zone_of w) (zone_below t.zones w b) f) e (linked_mono h l)

  pub linked_below : ((w : ℕ) → w < 2 * t.zones → start t w < t.points) → {p q : ℕ} → p < t.points → Linked t passes p q → q < t.points
  linked_below i b here = b
  linked_below i b (over w h f e l) = linked_below i (i (rev w) (rev_below t.zones w h)) l

  -- what is kept over each zone that passes is kept over links
  pub linked_keeps : (P : ℕ → Type 0) → ((w : ℕ) → w < 2 * t.zones → passes (zone_of w) → P (start t w) → P (leave t w)) → {p q : ℕ} → Linked t passes p q → P p → P q
  linked_keeps P k here x = x
  linked_keeps P k (over w h f e l) x = linked_keeps P k l (k w h f (subst P (sym e) x))

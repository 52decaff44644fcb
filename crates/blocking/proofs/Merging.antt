-- Merging zone by zone: labels only become alike and marks only come; a marked zone has both ends in home's part; no closed set parts like labels.
-- Each is kept by the merging of one zone, so by any number of rounds.
use Prim.Native.Nat.{ℕ, ◌*◌, ◌<◌}
use mathlib.Core.List.{foldl}
use mathlib.Core.Path.{◌≡◌, refl, sym, ◌∙◌, ap, subst}
use mathlib.Core.Logic.{◌⊎◌, inl, inr}
use mathlib.Core.Bool.{Bool, true, false, not, ◌&&◌}
use native.Mathlib.Omega.{arith}
use lib.ListN.{length, get_or, replicate, length-set, length-replicate, get_or-replicate}
use lib.Seq.{get_or-set_same, get_or-set_other}
use lib.Dec.{eqb}
use borrow.Author.Tests.{eqb-true, eqb-false, eq-eqb, not-true}
use Rattle.model.specs.Lists.{numbers_below}
use Rattle.model.specs.Track.{Track, rev, start, leave}
use Rattle.model.specs.Position.{Position, at, carrier_of, is_free, outs, standing}
use Rattle.model.specs.Labels.{label}
use Rattle.model.specs.Accepted.{Laid}
use Rattle.model.proofs.BoolLaws.{both_ways, and_left, and_right}
use Rattle.model.proofs.ListLaws.{mem_below, foldl_keeps, n_times_keeps}
use Rattle.model.proofs.WordLaws.{rev_below}
use Rattle.model.proofs.PositionLaws.{laid_stands}
use Rattle.model.proofs.LabelLaws.{length_join, InJoin, join_same, same_join}
use Rattle.rules.specs.Collapse.{joined, Merging, leads_home, merge_if, merge_zone, merge_all}
use Rattle.blocking.proofs.HomeSet.{Closed}
use Rattle.blocking.proofs.Joining.{joined_length, joined_keeps}

-- the zone was merged
abbrev pub marked : Merging → ℕ → Bool
marked m z = get_or m.merged z false

-- points r and s have one label
abbrev pub Alike : Merging → ℕ → ℕ → Type 0
Alike m r s = label m.labels r ≡ label m.labels s

pub record Sized (t : Track) (m : Merging) : Type 0 where
  pub labels_sized : length m.labels ≡ t.points
  pub marks_sized : length m.merged ≡ t.zones

-- what was alike is alike, what was marked is marked
pub record MergedFurther (t : Track) (m n : Merging) : Type 0 where
  pub coarser : (r s : ℕ) → r < t.points → s < t.points → Alike m r s → Alike n r s
  pub still_marked : (z : ℕ) → marked m z ≡ true → marked n z ≡ true

pub further_same : (t : Track) (m : Merging) → MergedFurther t m m
further_same t m = record { coarser = λ r s hr hs e. e; still_marked = λ z e. e }

pub further_more : {t : Track} {l m n : Merging} → MergedFurther t l m → MergedFurther t m n → MergedFurther t l n
further_more a b =
    record {
      coarser = λ r s hr hs e. b.coarser r s hr hs (a.coarser r s hr hs e);
      still_marked = λ z e. b.still_marked z (a.still_marked z e);
    }

-- the merging of one zone does nothing, or its zone leads home
pub merge_cases : (t : Track) (p : Position) (P : Merging → Type 0) (m : Merging) (z : ℕ) → P m → (leads_home t p m.labels z ≡ true → P (merge_if t p true m z)) → P (merge_zone t p m z)
unfolding merge_zone
merge_cases t p P m z same merged = by (leads_home t p m.labels z) refl
  where
    by : (b : Bool) → leads_home t p m.labels z ≡ b → P (merge_if t p b m z)
    by true e = merged e
    by false e = same

-- the zone merged
abbrev pub after : Track → Position → Merging → ℕ → Merging
after t p m z = merge_if t p true m z

module _ {t : Track} {p : Position} (laid : Laid t p) where
  standing_word : (z : ℕ) → z < t.zones → standing p z < 2 * t.zones
  standing_word z h = omega arith

  pub starts_in : (z : ℕ) → z < t.zones → start t (standing p z) < t.points
  starts_in z h = laid.inside (standing p z) (standing_word z h)

  pub leaves_in : (z : ℕ) → z < t.zones → leave t (standing p z) < t.points
  leaves_in z h = laid.inside (rev (standing p z)) (rev_below t.zones (standing p z) (standing_word z h))

  -- a zone that leads home is held, and its carrier leaves in home's part
  pub leads_held : (m : Merging) (z : ℕ) → leads_home t p m.labels z ≡ true → is_free p z ≡ false
  leads_held m z e = not-true (is_free p z) (and_left (not (is_free p z)) (eqb (label m.labels (leave t (standing p z))) (label m.labels t.home)) e)

  pub leads_alike : (m : Merging) (z : ℕ) → leads_home t p m.labels z ≡ true → Alike m (leave t (standing p z)) t.home
  leads_alike m z e =
      eqb-true (label m.labels (leave t (standing p z))) (label m.labels t.home)
      (and_right (not (is_free p z)) (eqb (label m.labels (leave t (standing p z))) (label m.labels t.home)) e)

  pub alike_leads : (m : Merging) (z : ℕ) → is_free p z ≡ false → Alike m (leave t (standing p z)) t.home → leads_home t p m.labels z ≡ true
  alike_leads m z f e =
      ap (λ (b : Bool). not b && eqb (label m.labels (leave t (standing p z))) (label m.labels t.home)) f
      ∙ eq-eqb (label m.labels (leave t (standing p z))) (label m.labels t.home) e

  module _ (m : Merging) (z : ℕ) (h : z < t.zones) (sized : Sized t m) where
    in_labels : (q : ℕ) → q < t.points → q < length m.labels
    in_labels q i = subst (λ (n : ℕ). q < n) (sym sized.labels_sized) i

    after_sized : Sized t (after t p m z)
    after_sized =
        record {
          labels_sized = length_join m.labels (start t (standing p z)) t.home ∙ sized.labels_sized;
          marks_sized = length-set m.merged z true ∙ sized.marks_sized;
        }

    pub after_marked : marked (after t p m z) z ≡ true
    after_marked = get_or-set_same m.merged z true false (subst (λ (n : ℕ). z < n) (sym sized.marks_sized) h)

    after_other : (x : ℕ) → (x ≡ z → ⊥) → marked (after t p m z) x ≡ marked m x
    after_other x n = get_or-set_other m.merged z x true false n

    after_alike : (r s : ℕ) → r < t.points → s < t.points → Alike m r s → Alike (after t p m z) r s
    after_alike r s hr hs e = same_join m.labels (start t (standing p z)) t.home r s (in_labels r hr) (in_labels s hs) (inl e)

    after_home : Alike (after t p m z) (start t (standing p z)) t.home
    after_home =
        same_join m.labels (start t (standing p z)) t.home (start t (standing p z)) t.home (in_labels (start t (standing p z)) (starts_in z h)) (in_labels t.home laid.home_in) (inr (inl refl, inr refl))

    after_further : MergedFurther t m (after t p m z)
    after_further = record { coarser = after_alike; still_marked = λ x e. by x e (eqb x z) refl }
      where
        by : (x : ℕ) → marked m x ≡ true → (b : Bool) → eqb x z ≡ b → marked (after t p m z) x ≡ true
        by x e true q = subst (λ (y : ℕ). marked (after t p m z) y ≡ true) (sym (eqb-true x z q)) after_marked
        by x e false q = after_other x (eqb-false x z q) ∙ e

-- the state before the first round
abbrev pub before : Track → Position → Merging
before t p = record { labels = joined t p; merged = replicate t.zones false }

-- what holds after any merging: like labels of the joined parts are alike, a marked zone is held and has both ends in home's part
pub record Sound (t : Track) (p : Position) (m : Merging) : Type 0 where
  pub sized : Sized t m
  pub further : MergedFurther t (before t p) m
  pub held : (z : ℕ) → z < t.zones → marked m z ≡ true → is_free p z ≡ false
  pub leaves_home : (z : ℕ) → z < t.zones → marked m z ≡ true → Alike m (leave t (standing p z)) t.home
  pub starts_home : (z : ℕ) → z < t.zones → marked m z ≡ true → Alike m (start t (standing p z)) t.home

-- a set of points that has both or neither of two points with one label
abbrev pub Keeps : Track → (ℕ → Type 0) → Merging → Type 0
Keeps t S m = (r s : ℕ) → r < t.points → s < t.points → Alike m r s → S r → S s

abbrev pub round : Track → Position → Merging → Merging
round t p m = foldl (merge_zone t p) m (numbers_below t.zones)

module _ {t : Track} {p : Position} (laid : Laid t p) where
  unmarked : (z : ℕ) {X : Type 0} → z < t.zones → marked (before t p) z ≡ true → X
  unmarked z h e = both_ways e (get_or-replicate t.zones z false false h)

  pub sound_before : Sound t p (before t p)
  sound_before =
      record {
        sized = record { labels_sized = joined_length laid; marks_sized = length-replicate t.zones false };
        further = further_same t (before t p);
        held = λ z h e. unmarked z h e;
        leaves_home = λ z h e. unmarked z h e;
        starts_home = λ z h e. unmarked z h e;
      }

  pub sound_merge : (m : Merging) (z : ℕ) → z < t.zones → Sound t p m → Sound t p (merge_zone t p m z)
  sound_merge m z h s = merge_cases t p (Sound t p) m z s merged
    where
      -- what holds of the zone merged and of all marked before holds of all marked
      each_marked : (P : ℕ → Type 0) → P z → ((x : ℕ) → x < t.zones → marked m x ≡ true → P x) → (x : ℕ) → x < t.zones → marked (after t p m z) x ≡ true → P x
      each_marked P here there x hx e = by (eqb x z) refl
        where
          by : (b : Bool) → eqb x z ≡ b → P x
          by true q = subst P (sym (eqb-true x z q)) here
          by false q = there x hx (sym (after_other laid m z h s.sized x (eqb-false x z q)) ∙ e)

      now : (r : ℕ) → r < t.points → Alike m r t.home → Alike (after t p m z) r t.home
      now r hr e = after_alike laid m z h s.sized r t.home hr laid.home_in e

      merged : leads_home t p m.labels z ≡ true → Sound t p (after t p m z)
      merged leads =
          record {
            sized = after_sized laid m z h s.sized;
            further = further_more s.further (after_further laid m z h s.sized);
            held = each_marked (λ x. is_free p x ≡ false) (leads_held laid m z leads) s.held;
            leaves_home =
                each_marked (λ x. Alike (after t p m z) (leave t (standing p x)) t.home) (now (leave t (standing p z)) (leaves_in laid z h) (leads_alike laid m z leads))
                (λ x hx e. now (leave t (standing p x)) (leaves_in laid x hx) (s.leaves_home x hx e));
            starts_home =
                each_marked (λ x. Alike (after t p m z) (start t (standing p x)) t.home) (after_home laid m z h s.sized)
                (λ x hx e. now (start t (standing p x)) (starts_in laid x hx) (s.starts_home x hx e));
          }

  pub sound_round : (m : Merging) → Sound t p m → Sound t p (round t p m)
  sound_round m s = foldl_keeps (Sound t p) (merge_zone t p) (numbers_below t.zones) (λ n z i. sound_merge n z (mem_below t.zones i)) m s

  pub sound_all : Sound t p (merge_all t p)
  unfolding merge_all
  sound_all = n_times_keeps (Sound t p) (round t p) sound_round (length (outs p)) (before t p) sound_before

  pub further_merge : (m : Merging) (z : ℕ) → z < t.zones → Sound t p m → MergedFurther t m (merge_zone t p m z)
  further_merge m z h s = merge_cases t p (MergedFurther t m) m z (further_same t m) (λ leads. after_further laid m z h s.sized)

  -- a closed set parts no like labels
  module _ (S : ℕ → Type 0) (closed : Closed t p S) where
    keeps_merge : (m : Merging) (z : ℕ) → z < t.zones → Sound t p m → Keeps t S m → Keeps t S (merge_zone t p m z)
    keeps_merge m z h s keeps = merge_cases t p (Keeps t S) m z keeps merged
      where
        behind : leads_home t p m.labels z ≡ true → S (start t (standing p z))
        behind leads =
            closed.behind (carrier_of (at p z)) (standing p z) (laid_stands t p laid z h (leads_held laid m z leads))
            (keeps t.home (leave t (standing p z)) laid.home_in (leaves_in laid z h) (sym (leads_alike laid m z leads)) closed.has_home)

        merged : leads_home t p m.labels z ≡ true → Keeps t S (after t p m z)
        merged leads r s' hr hs e i = by (join_same m.labels (start t (standing p z)) t.home r s' (in_labels laid m z h s.sized r hr) (in_labels laid m z h s.sized s' hs) e)
          where
            both : InJoin m.labels (start t (standing p z)) t.home s' → S s'
            both (inl q) = keeps (start t (standing p z)) s' (starts_in laid z h) hs (sym q) (behind leads)
            both (inr q) = keeps t.home s' laid.home_in hs (sym q) closed.has_home

            by : Alike m r s' ⊎ (InJoin m.labels (start t (standing p z)) t.home r × InJoin m.labels (start t (standing p z)) t.home s') → S s'
            by (inl q) = keeps r s' hr hs q i
            by (inr q) = both q.1

    keeps_round : (m : Merging) → Sound t p m × Keeps t S m → Sound t p (round t p m) × Keeps t S (round t p m)
    keeps_round m k =
        foldl_keeps (λ n. Sound t p n × Keeps t S n) (merge_zone t p) (numbers_below t.zones)
        (λ n z i b. (sound_merge n z (mem_below t.zones i) b.0, keeps_merge n z (mem_below t.zones i) b.0 b.1)) m k

    pub keeps_all : Keeps t S (merge_all t p)
    unfolding merge_all
    keeps_all = (n_times_keeps (λ n. Sound t p n × Keeps t S n) (round t p) keeps_round (length (outs p)) (before t p) (sound_before, joined_keeps laid S closed)).1

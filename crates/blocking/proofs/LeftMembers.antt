-- The collapse's list: the carriers that leave at a point without home's label at the end, ascending.
-- They are those of the held zones that are not marked, and no carrier stands in two zones.
use Prim.Native.Nat.{ℕ, ◌<◌}
use mathlib.Core.List.{List, [], ◌∷◌, map, Memᴰ}
use mathlib.Core.Path.{◌≡◌, refl, sym, ◌∙◌, ap, subst}
use mathlib.Core.Logic.{◌↔◌}
use mathlib.Core.Bool.{Bool, true, false, not, ◌&&◌}
use borrow.Author.Tests.{not-true}
use Rattle.model.specs.Lists.{numbers_below, keep, Ascending}
use Rattle.model.specs.Track.{Track, zone_of, leave}
use Rattle.model.specs.Position.{Position, at, carrier_of, is_free, Stands, standing}
use Rattle.model.specs.Accepted.{Laid}
use Rattle.model.proofs.BoolLaws.{both_ways, not_true_false, and_left, and_right}
use Rattle.model.proofs.ListLaws.{mem_below, below_mem, mem_keep, keep_mem}
use Rattle.model.proofs.AscendingLaws.{mem_ascending, ascending_mem, NoRepeats, ascending_strict, keep_ascending, below_ascending, ascending_no_repeats}
use Rattle.model.proofs.WordLaws.{zone_below}
use Rattle.model.proofs.PositionLaws.{stands_carrier, stands_word, stands_below, stands_not_free, laid_stands}
use Rattle.rules.specs.Collapse.{merge_all, left}
use Rattle.blocking.proofs.Standings.{standing_zone}
use Rattle.blocking.proofs.Merging.{marked}
use Rattle.blocking.proofs.HomeClass.{InHome, marked_leaves}

-- what a function that tells members apart makes of a list in which none stands twice
map_no_repeats : (f : ℕ → ℕ) (l : List ℕ) → ((x y : ℕ) → Memᴰ x l → Memᴰ y l → f x ≡ f y → x ≡ y) → NoRepeats l → NoRepeats (map f l)
map_no_repeats f [] tells n = tt
map_no_repeats f (a ∷ l) tells n = (
  λ m. let r = mathlib.Core.List.Memᴰ.of_map f l m in n.0 (mathlib.Core.List.Memᴰ.cast (tells a r.0 (mathlib.Core.List.Memᴰ.head refl) (mathlib.Core.List.Memᴰ.tail r.1) (sym r.2)) r.1),
  map_no_repeats f l (λ x y i j. tells x y (mathlib.Core.List.Memᴰ.tail i) (mathlib.Core.List.Memᴰ.tail j)) n.1,
)

module _ {t : Track} {p : Position} (laid : Laid t p) where
  -- a held zone that was not merged
  abbrev stays : ℕ → Bool
  stays z = not (is_free p z) && not (marked (merge_all t p) z)

  abbrev held_by : ℕ → ℕ
  held_by z = carrier_of (at p z)

  stays_held : (z : ℕ) → stays z ≡ true → is_free p z ≡ false
  stays_held z e = not-true (is_free p z) (and_left (not (is_free p z)) (not (marked (merge_all t p) z)) e)

  -- a carrier is left only where it leaves at a point without home's label
  pub mem_left : (c : ℕ) → Memᴰ c (left t p) → (w : ℕ) × Stands p c w × (InHome t p (leave t w) → ⊥)
  unfolding left
  mem_left c m =
      let r : (z : ℕ) × Memᴰ z (keep stays (numbers_below t.zones)) × (held_by z ≡ c) = mathlib.Core.List.Memᴰ.of_map held_by (keep stays (numbers_below t.zones)) (mem_ascending (map held_by (keep stays (numbers_below t.zones))) m) in
      let k : Memᴰ r.0 (numbers_below t.zones) × (stays r.0 ≡ true) = mem_keep stays (numbers_below t.zones) r.1 in
      let h : r.0 < t.zones = mem_below t.zones k.0 in
      let held : is_free p r.0 ≡ false = stays_held r.0 k.1 in
      let open_now : marked (merge_all t p) r.0 ≡ false = not-true (marked (merge_all t p) r.0) (and_right (not (is_free p r.0)) (not (marked (merge_all t p) r.0)) k.1) in
      (standing p r.0, subst (λ (d : ℕ). Stands p d (standing p r.0)) r.2 (laid_stands t p laid r.0 h held), λ i. both_ways ((marked_leaves laid r.0 h held).1 i) open_now)

  -- and always there
  pub left_mem : (c w : ℕ) → Stands p c w → (InHome t p (leave t w) → ⊥) → Memᴰ c (left t p)
  unfolding left
  left_mem c w s out =
      ascending_mem (mathlib.Core.List.Memᴰ.cast (sym (stands_carrier s)) (mathlib.Core.List.Memᴰ.map held_by (keep_mem stays (below_mem t.zones (zone_of w) h) passes)))
    where
      h : zone_of w < t.zones
      h = zone_below t.zones w (stands_below t p laid s)

      open_now : marked (merge_all t p) (zone_of w) ≡ false
      open_now =
          not_true_false (marked (merge_all t p) (zone_of w))
          (λ e. out (subst (λ (v : ℕ). InHome t p (leave t v)) (stands_word s) ((marked_leaves laid (zone_of w) h (stands_not_free s)).0 e)))

      passes : stays (zone_of w) ≡ true
      passes = ap (λ (b : Bool). not b && not (marked (merge_all t p) (zone_of w))) (stands_not_free s) ∙ ap not open_now

  -- the members of the collapse's list
  pub left_members : (c : ℕ) → Memᴰ c (left t p) ↔ ((w : ℕ) × Stands p c w × (InHome t p (leave t w) → ⊥))
  left_members c = (mem_left c, λ r. left_mem c r.0 r.1 r.2)

  pub left_ascending : Ascending (left t p)
  unfolding left
  left_ascending = ascending_strict (map held_by (keep stays (numbers_below t.zones))) (map_no_repeats held_by (keep stays (numbers_below t.zones)) one_zone (ascending_no_repeats (keep stays (numbers_below t.zones)) (keep_ascending stays (numbers_below t.zones) (below_ascending t.zones))))
    where
      there : (z : ℕ) → Memᴰ z (keep stays (numbers_below t.zones)) → Stands p (held_by z) (standing p z)
      there z i =
          let k : Memᴰ z (numbers_below t.zones) × (stays z ≡ true) = mem_keep stays (numbers_below t.zones) i in
          laid_stands t p laid z (mem_below t.zones k.0) (stays_held z k.1)

      one_zone : (x y : ℕ) → Memᴰ x (keep stays (numbers_below t.zones)) → Memᴰ y (keep stays (numbers_below t.zones)) → held_by x ≡ held_by y → x ≡ y
      one_zone x y i j e =
          sym (standing_zone p x)
          ∙ ap zone_of (laid.once (held_by x) (standing p x) (standing p y) (there x i) (subst (λ (c : ℕ). Stands p c (standing p y)) (sym e) (there y j)))
          ∙ standing_zone p y

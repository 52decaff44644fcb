-- A free part: what is grown from a point over free zones is the set of the points with its label, and its size and its zones say
-- whether it holds a loop. The ways over free zones reach what is linked over them.
use Prim.Native.Nat.{ℕ, ◌*◌, ◌<◌}
use mathlib.Core.Path.{◌≡◌, sym, ap, ap₂, ◌∙◌}
use mathlib.Core.List.{List}
use mathlib.Core.Bool.{Bool, true, false, ◌&&◌}
use native.Mathlib.Omega.{arith}
use borrow.Author.Tests.{eqb-true, eq-eqb}
use lib.Dec.{eqb, leb}
use Rattle.model.specs.Lists.{numbers_below, how_many}
use Rattle.model.specs.Track.{Track, Linked, start}
use Rattle.model.specs.Position.{Position, is_free}
use Rattle.model.specs.Labels.{label}
use Rattle.model.proofs.BoolLaws.{not_true_false, same_test}
use Rattle.model.proofs.CountLaws.{how_many_below_ext}
use Rattle.model.proofs.LinkLaws.{linked_below, linked_sym, linked_trans}
use Rattle.model.proofs.LabelLaws.{parts_linked, linked_parts}
use Rattle.rules.specs.Collapse.{free_parts, loop_in}
use Rattle.bits.specs.Sets.{has_bit}
use Rattle.bits.proofs.SizeLaws.{count_within}
use Rattle.reach.specs.Ways.{Reach, Grown}
use Rattle.reach.proofs.LinkedLaws.{reach_linked, linked_reach}
use Rattle.parts.specs.Ways.{EndsAmong, goes_on, WaysOn}
use Rattle.parts.proofs.OneWord.{goes_free}

module _ (t : Track) {p : Position} (among : EndsAmong t.points t.zones t.ends p) {ways : List ℕ} (o : WaysOn t.ends (goes_on t.ends p false 0) (2 * t.zones) ways) where
  abbrev ls : List ℕ
  ls = free_parts t p

  -- what is reached over the ways is linked over free zones, and the other way round
  linked : {a b : ℕ} → Reach ways a b → Linked t (λ z. is_free p z ≡ true) a b
  linked = reach_linked t (is_free p) o (goes_free t.ends p 0)

  reached : {a b : ℕ} → Linked t (λ z. is_free p z ≡ true) a b → Reach ways a b
  reached = linked_reach t (is_free p) o (goes_free t.ends p 0)

  -- free zones lead both ways, so parts do not overlap: a point from which one of the part is reached is in the part
  pub part_whole : {q part : ℕ} → Grown ways q part → (a b : ℕ) → Reach ways a b → has_bit part b ≡ true → has_bit part a ≡ true
  part_whole g a b k e = g.whole a (reached (linked_trans t (linked (g.sound b e)) (linked_sym t (linked k))))

  module _ {q part : ℕ} (h : q < t.points) (g : Grown ways q part) where
    -- the points grown are those with the label
    part_label : (r : ℕ) → r < t.points → has_bit part r ≡ eqb (label ls r) (label ls q)
    unfolding free_parts
    part_label r k =
        same_test (has_bit part r) (eqb (label ls r) (label ls q))
        (λ e. eq-eqb (label ls r) (label ls q) (sym (linked_parts t among.inside (is_free p) q r h (linked (g.sound r e)))))
        (λ e. g.whole r (reached (parts_linked t among.inside (is_free p) q r h k (sym (eqb-true (label ls r) (label ls q) e)))))

    pub part_inside : (r : ℕ) → has_bit part r ≡ true → r < t.points
    part_inside r e = linked_below t among.inside h (linked (g.sound r e))

    -- the test of sizes is the test of a loop
    pub part_loop : leb (how_many (has_bit part) (numbers_below 64)) (how_many (λ z. is_free p z && has_bit part (start t (2 * z))) (numbers_below t.zones)) ≡ loop_in t p ls (label ls q)
    unfolding loop_in
    part_loop =
        ap₂ leb
        (count_within t.points part g.word (λ r l. not_true_false (has_bit part r) (λ e. let i : r < t.points = part_inside r e in omega arith))
        ∙ how_many_below_ext (has_bit part) (λ r. eqb (label ls r) (label ls q)) t.points part_label)
        (how_many_below_ext (λ z. is_free p z && has_bit part (start t (2 * z))) (λ z. is_free p z && eqb (label ls (start t (2 * z))) (label ls q)) t.zones
        (λ z l. ap (λ (b : Bool). is_free p z && b) (part_label (start t (2 * z)) (among.inside (2 * z) (omega arith)))))

    -- points of one part hold a loop alike
    pub part_alike : (r : ℕ) → r < t.points → has_bit part r ≡ true → loop_in t p ls (label ls r) ≡ loop_in t p ls (label ls q)
    part_alike r k e = ap (loop_in t p ls) (eqb-true (label ls r) (label ls q) (sym (part_label r k) ∙ e))

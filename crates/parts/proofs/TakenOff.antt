-- The zones gone through one by one: those below z are as the collapse leaves them, the others as they were.
-- Where z is the number of zones, the whole position is.
use Prim.Native.Nat.{ℕ, ◌≤◌, ◌<◌}
use mathlib.Core.Path.{◌≡◌, sym, ◌∙◌}
use mathlib.Core.List.{List}
use mathlib.Core.Bool.{cond}
use native.Mathlib.Omega.{arith}
use lib.ListN.{length, length-map}
use lib.Seq.{ext_get_or}
use Rattle.model.specs.Lists.{numbers_below}
use Rattle.model.specs.Position.{Position, at}
use Rattle.model.proofs.ListLaws.{length_below}
use Rattle.model.proofs.PlaceLaws.{get_or_map_below}
use Rattle.bits.specs.Sets.{has_bit}
use Rattle.parts.specs.Home.{leaves_at, left_position}

-- what the collapse leaves in a zone
abbrev pub left_at : List ℕ → ℕ → Position → ℕ → ℕ
left_at ends s p z = cond (has_bit s (leaves_at ends p z)) 0 (at p z)

pub length_left : (ends : List ℕ) (s : ℕ) (p : Position) → length (left_position ends s p) ≡ length p
unfolding left_position
length_left ends s p = length-map (numbers_below (length p)) (left_at ends s p) ∙ length_below (length p)

pub at_left : (ends : List ℕ) (s : ℕ) (p : Position) (z : ℕ) → z < length p → at (left_position ends s p) z ≡ left_at ends s p z
unfolding left_position
at_left ends s p z h = get_or_map_below (left_at ends s p) (length p) z 0 h

pub record Taking (ends : List ℕ) (s : ℕ) (p : Position) (z : ℕ) (q : Position) : Type 0 where
  pub as_long : length q ≡ length p
  pub done : (x : ℕ) → x < z → at q x ≡ left_at ends s p x
  pub kept : (x : ℕ) → z ≤ x → at q x ≡ at p x

pub taking_all : (ends : List ℕ) (s : ℕ) (p : Position) {z : ℕ} {q : Position} → Taking ends s p z q → length p ≤ z → q ≡ left_position ends s p
taking_all ends s p {q = q} g l =
    ext_get_or 0 q (left_position ends s p) (g.as_long ∙ sym (length_left ends s p))
    (λ i h. let k : i < length p = omega (arith, g.as_long) in g.done i (omega arith) ∙ sym (at_left ends s p i k))

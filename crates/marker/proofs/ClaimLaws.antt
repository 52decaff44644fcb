-- Two lists compared number by number, as std's == does: the definition's own comparison.
-- By induction over both.
use Prim.Native.Nat.{ℕ}
use mathlib.Core.List.{List, [], ◌∷◌}
use mathlib.Core.Path.{◌≡◌, refl, ap}
use mathlib.Core.Bool.{Bool, ◌&&◌}
use lib.Dec.{eqb}
use lib.Pointwise.{pointwise}
use Rattle.rules.specs.Sheet.{same_list}

pub same_compared : (l m : List ℕ) → pointwise eqb l m ≡ same_list l m
unfolding same_list
same_compared [] [] = refl
same_compared [] (b ∷ m) = refl
same_compared (a ∷ l) [] = refl
same_compared (a ∷ l) (b ∷ m) = ap (λ (r : Bool). eqb a b && r) (same_compared l m)

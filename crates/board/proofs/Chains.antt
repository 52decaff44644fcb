-- What the library says of chains, in the words of the definitions: whether some element passes a test, and the numbers of a range.
-- By induction.
use Prim.Native.Nat.{ℕ, zero, suc, ◌+◌}
use native.Mathlib.Numerals.{add-one}
use mathlib.Core.List.{List, [], ◌∷◌}
use mathlib.Core.Path.{◌≡◌, refl, ◌∙◌, ap}
use mathlib.Core.Bool.{Bool, ◌||◌}
use Rattle.std.specs.List.{list_any, range_with_len}
use Rattle.model.specs.Lists.{count_up, any_of}

pub any_listed : (f : ℕ → Bool) (l : List ℕ) → list_any f l ≡ any_of f l
any_listed f [] = refl
any_listed f (x ∷ l) = ap (λ (t : Bool). f x || t) (any_listed f l)

pub range_listed : (k n : ℕ) → range_with_len k n ≡ count_up k n
range_listed k zero = refl
range_listed k (suc n) = ap (λ (l : List ℕ). k ∷ l) (range_listed (k + 1) n ∙ ap (λ (i : ℕ). count_up i n) (add-one k))

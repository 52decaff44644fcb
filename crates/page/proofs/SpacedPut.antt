-- A list put with a space before each: the loops over a route's words and over the blocked numbers.
-- `Spacing` is what they keep: what is left to write is the list from j on.
use Prim.Native.Nat.{ℕ, ◌+◌, ◌≤◌, ◌<◌}
use mathlib.Core.Path.{◌≡◌, sym, ap, ◌∙◌}
use mathlib.Core.List.{List, [], ◌∷◌}
use native.Mathlib.Numerals.{add-one}
use lib.ListN.{length, get_or, drop, drop_of_length-le}
use lib.Seq.{drop-cons}
use Rattle.page.specs.declared.writing.Writing.{Writing}
use Rattle.page.specs.Page.{spelled, spaced}
use Rattle.page.specs.Writing.{Put}
use Rattle.page.proofs.PutLaws.{Putting, goes_in, ends}

abbrev pub Spacing : (ℕ → List ℕ) → List ℕ → Writing → ℕ → Writing → Type 0
Spacing f list before j w = Putting (spaced f list) before (spaced f (drop j list) ∷ []) w

spaced_from : (f : ℕ → List ℕ) (list : List ℕ) (j : ℕ) → j < length list → spaced f (drop j list) ≡ spaced f (get_or list j 0 ∷ drop (j + 1) list)
spaced_from f list j h = ap (spaced f) (drop-cons list j 0 h ∙ ap (λ (n : ℕ). get_or list j 0 ∷ drop n list) (sym (add-one j)))

module _ (f : ℕ → List ℕ) (list : List ℕ) {before w : Writing} {j : ℕ} (s : Spacing f list before j w) where
  pub spacing_ends : length list ≤ j → Put (spaced f list) before w
  unfolding spaced
  spacing_ends all = ends (goes_in [] (rw (drop_of_length-le list all) at s))

  -- one more: a space, and then the item
  pub spacing_goes : j < length list → Putting (spaced f list) before (spelled " " ∷ f (get_or list j 0) ∷ spaced f (drop (j + 1) list) ∷ []) w
  unfolding spaced
  spacing_goes more = goes_in (spelled " " ∷ f (get_or list j 0) ∷ spaced f (drop (j + 1) list) ∷ []) (rw (spaced_from f list j more) at s)

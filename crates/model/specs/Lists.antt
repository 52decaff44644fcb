-- Short functions on lists that the definitions are written with.
use Rattle.std.specs.Prelude.{ℕ, zero, suc, ◌+◌, ◌<◌, Bool, true, false, cond, ◌&&◌, ◌||◌, length, take, drop, leb}
use mathlib.Core.List.{List, [], ◌∷◌, ◌++◌, Memᴰ}
use Rattle.std.proofs.Math.Option.{Option, none, some}

-- n numbers in a row, k first
abbrev pub count_up : ℕ → ℕ → List ℕ
count_up k zero = []
count_up k (suc n) = k ∷ count_up (suc k) n

-- the numbers below n, ascending
abbrev pub numbers_below : ℕ → List ℕ
numbers_below n = count_up 0 n

module _ {A : Type 0} where
  -- a put before l where the test holds
  abbrev pub cons_if : Bool → A → List A → List A
  cons_if true a l = a ∷ l
  cons_if false a l = l

  -- those that pass the test, in order
  abbrev pub keep : (A → Bool) → List A → List A
  keep f [] = []
  keep f (a ∷ l) = cons_if (f a) a (keep f l)

  -- some element passes the test
  abbrev pub any_of : (A → Bool) → List A → Bool
  any_of f [] = false
  any_of f (a ∷ l) = f a || any_of f l

  -- every element passes the test
  abbrev pub all_of : (A → Bool) → List A → Bool
  all_of f [] = true
  all_of f (a ∷ l) = f a && all_of f l

  -- a where the test holds
  abbrev pub this_else : Bool → A → Option A → Option A
  this_else true a o = some a
  this_else false a o = o

  -- the first that passes the test
  abbrev pub first : (A → Bool) → List A → Option A
  first f [] = none
  first f (a ∷ l) = let o = first f l in this_else (f a) a o

  -- how many pass the test
  abbrev pub how_many : (A → Bool) → List A → ℕ
  how_many f l = length (keep f l)

  -- f done n times
  abbrev pub n_times : ℕ → (A → A) → A → A
  n_times zero f a = a
  n_times (suc n) f a = n_times n f (f a)

-- a into an ascending list
abbrev pub inserted : ℕ → List ℕ → List ℕ
inserted a [] = a ∷ []
inserted a (b ∷ l) = let r = inserted a l in cond (leb a b) (a ∷ b ∷ l) (b ∷ r)

-- the same numbers, ascending
abbrev pub ascending : List ℕ → List ℕ
ascending [] = []
ascending (a ∷ l) = inserted a (ascending l)

-- each number is below all that come after it
abbrev pub Ascending : List ℕ → Type 0
Ascending [] = Unit {0}
Ascending (a ∷ l) = ((b : ℕ) → Memᴰ b l → a < b) × Ascending l

-- what was lent, with these numbers written from its start, or from a place on; the rest stays as it was
abbrev pub overwritten : List ℕ → List ℕ → List ℕ
overwritten written lent = written ++ drop (length written) lent

abbrev pub overwritten_at : ℕ → List ℕ → List ℕ → List ℕ
overwritten_at from written lent = take from lent ++ (written ++ drop (from + length written) lent)

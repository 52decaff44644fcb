-- The queue of a breadth-first search over any `nexts`: the words found, each with the place of the word it was found from. The search looks at one
-- place after another and offers its next words. At its end the queue holds all that is reachable, and the first goal in it has the least way.
use Rattle.std.specs.Prelude.{ℕ, zero, suc, Bool, true, false, get_or, eqb}
use mathlib.Core.List.{List, [], ◌∷◌, ◌++◌, foldl}
use Rattle.model.specs.Lists.{any_of}

pub record Queue : Type 0 where
  pub words : List ℕ
  pub froms : List ℕ

abbrev pub in_queue : Queue → ℕ → Bool
in_queue q v = any_of (eqb v) q.words

abbrev pub offer_if : Bool → ℕ → Queue → ℕ → Queue
offer_if true i q v = q
offer_if false i q v = record { words = q.words ++ (v ∷ []); froms = q.froms ++ (i ∷ []) }

-- v, found from place i, goes to the end unless it is there already
unfoldable pub offer : ℕ → Queue → ℕ → Queue
offer i q v = offer_if (in_queue q v) i q v

unfoldable pub offer_all : ℕ → Queue → List ℕ → Queue
offer_all i q vs = foldl (offer i) q vs

-- the words from place 0 to place i, put before l
unfoldable pub path_onto : ℕ → Queue → ℕ → List ℕ → List ℕ
path_onto zero q i l = l
path_onto (suc n) q zero l = get_or q.words 0 0 ∷ l
path_onto (suc n) q (suc i) l = path_onto n q (get_or q.froms (suc i) 0) (get_or q.words (suc i) 0 ∷ l)

-- the way from place 0 to place i
unfoldable pub path_to : Queue → ℕ → List ℕ
path_to q i = path_onto (suc i) q i []

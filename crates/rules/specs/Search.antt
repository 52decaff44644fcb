-- The least way to a goal over any `nexts`, the words that may follow a word, ascending: fewest words, and smallest at the first difference.
use Rattle.std.specs.Prelude.{ℕ, zero, suc, List, [], ◌∷◌, Bool}
use Rattle.std.proofs.Math.Option.{Option, none, some, map}
use Rattle.model.specs.Lists.{numbers_below, any_of, first}

abbrev pub followed : Option ℕ → (ℕ → List ℕ) → List ℕ
followed none rest = []
followed (some v) rest = v ∷ rest v

module _ (nexts : ℕ → List ℕ) (goal : ℕ → Bool) where
  -- exactly k words after w can end at a goal
  unfoldable pub goal_in : ℕ → ℕ → Bool
  goal_in zero w = goal w
  goal_in (suc k) w = any_of (goal_in k) (nexts w)

  -- those words: always the smallest next one from which one fewer will do
  unfoldable pub words_to : ℕ → ℕ → List ℕ
  words_to zero w = []
  words_to (suc k) w = followed (first (goal_in k) (nexts w)) (words_to k)

  -- the least way from w, w first, with fewer than n words after it
  unfoldable pub least_from : ℕ → ℕ → Option (List ℕ)
  least_from n w = map (λ k. w ∷ words_to k w) (first (λ k. goal_in k w) (numbers_below n))

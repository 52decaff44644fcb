-- What may follow a goal changes no least way: with the same next words everywhere but at goals, none at all say, the least way is the same.
-- The least way ends at the first goal on it, so up to the fewest words that will do both searches go by the same next words.
use Prim.Native.Nat.{ℕ, zero, suc, ◌<◌}
use mathlib.Core.Path.{◌≡◌, refl, ap}
use mathlib.Core.List.{List, ◌∷◌, Memᴰ}
use mathlib.Core.Bool.{Bool, false}
use mathlib.Core.Option.{Option, none, some, map}
use native.Mathlib.Omega.{arith}
use Rattle.model.specs.Lists.{numbers_below, first}
use Rattle.model.proofs.BoolLaws.{not_true_false, both_ways}
use Rattle.model.proofs.ListLaws.{true_any, any_ext, first_some, first_below}
use Rattle.rules.specs.Search.{followed, goal_in, words_to, least_from}
use Rattle.least.proofs.FirstLaws.{first_ext, first_agrees}

module _ (nexts shut : ℕ → List ℕ) (goal : ℕ → Bool) (same : (w : ℕ) → goal w ≡ false → shut w ≡ nexts w) where
  -- fewer than k words after w don't end at a goal
  abbrev NoneFewer : ℕ → ℕ → Type 0
  NoneFewer k w = (j : ℕ) → j < k → goal_in nexts goal j w ≡ false

  not_goal : {k w : ℕ} → NoneFewer (suc k) w → goal w ≡ false
  unfolding goal_in
  not_goal h = h 0 (omega arith)

  -- nor do fewer than k words after a next word, where fewer than one more don't
  none_fewer_next : {k w v : ℕ} → NoneFewer (suc k) w → Memᴰ v (nexts w) → NoneFewer k v
  unfolding goal_in
  none_fewer_next {v = v} h m j l = not_true_false (goal_in nexts goal j v) (λ e. both_ways (true_any (goal_in nexts goal j) m e) (h (suc j) (omega arith)))

  goal_in_same : (k w : ℕ) → NoneFewer k w → goal_in shut goal k w ≡ goal_in nexts goal k w
  unfolding goal_in
  goal_in_same zero w h = refl
  goal_in_same (suc k) w h = rw (same w (not_goal h)) (any_ext (goal_in shut goal k) (goal_in nexts goal k) (nexts w) (λ v m. goal_in_same k v (none_fewer_next h m)))

  words_same : (k w : ℕ) → NoneFewer k w → words_to shut goal k w ≡ words_to nexts goal k w
  unfolding words_to
  words_same zero w h = refl
  words_same (suc k) w h = rw (same w (not_goal h), next_same) (go (first (goal_in nexts goal k) (nexts w)) refl (λ v m. words_same k v (none_fewer_next h m)))
    where
      next_same : first (goal_in shut goal k) (nexts w) ≡ first (goal_in nexts goal k) (nexts w)
      next_same = first_ext (goal_in shut goal k) (goal_in nexts goal k) (nexts w) (λ v m. goal_in_same k v (none_fewer_next h m))

      go : (o : Option ℕ) → first (goal_in nexts goal k) (nexts w) ≡ o → ((v : ℕ) → Memᴰ v (nexts w) → words_to shut goal k v ≡ words_to nexts goal k v)
          → followed o (words_to shut goal k) ≡ followed o (words_to nexts goal k)
      go none e ih = refl
      go (some v) e ih = ap (λ (l : List ℕ). v ∷ l) (ih v (first_some (goal_in nexts goal k) (nexts w) e).0)

  pub least_same : (n w : ℕ) → least_from shut goal n w ≡ least_from nexts goal n w
  unfolding least_from
  least_same n w = rw count_same (go (first (λ k. goal_in nexts goal k w) (numbers_below n)) refl)
    where
      count_same : first (λ k. goal_in shut goal k w) (numbers_below n) ≡ first (λ k. goal_in nexts goal k w) (numbers_below n)
      count_same = first_agrees (λ k. goal_in shut goal k w) (λ k. goal_in nexts goal k w) (λ k h. goal_in_same k w h) n

      go : (o : Option ℕ) → first (λ k. goal_in nexts goal k w) (numbers_below n) ≡ o → map (λ k. w ∷ words_to shut goal k w) o ≡ map (λ k. w ∷ words_to nexts goal k w) o
      go none e = refl
      go (some k) e = ap (λ (l : List ℕ). some (w ∷ l)) (words_same k w (first_below (λ k. goal_in nexts goal k w) n e).none_lower)

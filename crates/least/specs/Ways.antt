-- Ways to a goal over any `nexts`, and which of two ways of one length is the smaller.
-- The least way is defined by a search in crate rules; here is what it is measured against.
use Rattle.std.specs.Prelude.{ℕ, ◌<◌, ◌≡◌, Bool, true}
use mathlib.Core.List.{List, [], ◌∷◌, Memᴰ}

-- from w by these words, each among the next words of the one before it, to a goal
pub data Way (nexts : ℕ → List ℕ) (goal : ℕ → Bool) : ℕ → List ℕ → Type 0 where
  ends : {w : ℕ} → goal w ≡ true → Way nexts goal w []
  goes : {w v : ℕ} {vs : List ℕ} → Memᴰ v (nexts w) → Way nexts goal v vs → Way nexts goal w (v ∷ vs)

-- of two lists of one length: smaller at the first word where they differ
pub data Before : List ℕ → List ℕ → Type 0 where
  differs : {v u : ℕ} {vs us : List ℕ} → v < u → Before (v ∷ vs) (u ∷ us)
  later : {v : ℕ} {vs us : List ℕ} → Before vs us → Before (v ∷ vs) (v ∷ us)

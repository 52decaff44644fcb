-- Ways as a list of sets of points, one for each point that they lead from, and what is reached over them.
use Rattle.std.specs.Prelude.{ℕ, ◌^◌, ◌≤◌, ◌<◌, List, ◌≡◌, Bool, true, length, get_or}
use Rattle.bits.specs.Sets.{has_bit}

-- ways among at most 64 points: bit r of the q-th word says that a way leads from q to r, and none leads out
pub record Ways (ways : List ℕ) : Type 0 where
  pub few : length ways ≤ 64
  pub inside : (q r : ℕ) → has_bit (get_or ways q 0) r ≡ true → r < length ways

-- reached from p over ways
pub data Reach (ways : List ℕ) (p : ℕ) : ℕ → Type 0 where
  here : Reach ways p p
  on : {q r : ℕ} → Reach ways p q → has_bit (get_or ways q 0) r ≡ true → Reach ways p r

-- r is the set of the points that are reached from p
pub record Grown (ways : List ℕ) (p r : ℕ) : Type 0 where
  pub word : r < 2 ^ 64
  pub sound : (q : ℕ) → has_bit r q ≡ true → Reach ways p q
  pub whole : (q : ℕ) → Reach ways p q → has_bit r q ≡ true

-- the ways over the words below n that pass a test: from where such a word starts to where it leaves, and no others
pub record WaysOver (start leave : ℕ → ℕ) (goes : ℕ → Bool) (n : ℕ) (ways : List ℕ) : Type 0 where
  pub long : length ways ≡ 64
  pub sound : (a b : ℕ) → has_bit (get_or ways a 0) b ≡ true → (w : ℕ) × (w < n) × (goes w ≡ true) × (start w ≡ a) × (leave w ≡ b)
  pub whole : (w : ℕ) → w < n → goes w ≡ true → has_bit (get_or ways (start w) 0) (leave w) ≡ true

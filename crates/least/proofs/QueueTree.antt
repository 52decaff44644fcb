-- The queue as a tree of next words from w, its places in the order of their paths, and which words it holds.
-- Each is shown of the first queue and of a queue to which one word is added.
use Prim.Native.Nat.{ℕ, suc, ◌≤◌, ◌<◌}
use mathlib.Core.Path.{◌≡◌, refl, ◌∙◌}
use mathlib.Core.Logic.{◌⊎◌}
use mathlib.Core.List.{List, Memᴰ}
use mathlib.Core.Bool.{false}
use native.Mathlib.Omega.{arith}
use lib.ListN.{length}
use Rattle.least.specs.Queue.{Queue, in_queue}
use Rattle.least.proofs.QueueLaws.{size, word_at, from_at, start_queue, added, added_places, size_added, word_old, word_new, from_old, from_new}
use Rattle.least.proofs.ProperQueue.{Proper, proper_start, added_proper}

module _ (nexts : ℕ → List ℕ) (n w : ℕ) where
  -- each word but the first is a next word of the one that it was found from, at a place below m
  pub record Tree (m : ℕ) (q : Queue) : Type 0 where
    pub proper : Proper n q
    pub first_word : word_at q 0 ≡ w
    pub first_from : from_at q 0 ≡ 0
    pub recent : (j : ℕ) → 0 < j → j < size q → from_at q j < m
    pub follows : (j : ℕ) → 0 < j → j < size q → Memᴰ (word_at q j) (nexts (word_at q (from_at q j)))

  pub tree_start : w < n → Tree 0 (start_queue w)
  tree_start b = record {
    proper = proper_start n w b;
    first_word = refl;
    first_from = refl;
    recent = λ j z h. absurd (omega arith);
    follows = λ j z h. absurd (omega arith);
  }

  pub tree_more : {m : ℕ} {q : Queue} → Tree m q → Tree (suc m) q
  tree_more t = record {
    proper = t.proper;
    first_word = t.first_word;
    first_from = t.first_from;
    recent = λ j z h. let l = t.recent j z h in omega arith;
    follows = t.follows;
  }

  pub tree_added : (i v : ℕ) {q : Queue} → Tree (suc i) q → i < size q → v < n → in_queue q v ≡ false → Memᴰ v (nexts (word_at q i)) → Tree (suc i) (added i q v)
  tree_added i v {q} t b c e f = record {
    proper = added_proper t.proper i v b c e;
    first_word = word_old i q v 0 t.proper.begun ∙ t.first_word;
    first_from = from_old i q v even 0 t.proper.begun ∙ t.first_from;
    recent = λ j z h. added_places i q v even (λ j x g. 0 < j → g < suc i) (λ j h z. t.recent j z h) (λ z. omega arith) j h z;
    follows = λ j z h. added_places i q v even (λ j x g. 0 < j → Memᴰ x (nexts (word_at (added i q v) g))) old (λ z. rw (word_old i q v i b) f) j h z;
  }
    where
      even : length q.froms ≡ size q
      even = t.proper.even

      old : (j : ℕ) → j < size q → 0 < j → Memᴰ (word_at q j) (nexts (word_at (added i q v) (from_at q j)))
      old j h z =
          let l : from_at q j < j = t.proper.falls j z h in
          let d : from_at q j < size q = omega arith in
          rw (word_old i q v (from_at q j) d) (t.follows j z h)

-- of two places the earlier was found from an earlier place, or from the same and its word is smaller
abbrev pub Earlier : ℕ → ℕ → ℕ → ℕ → Type 0
Earlier f x g y = (f < g) ⊎ ((f ≡ g) × (x < y))

pub record SortedQueue (q : Queue) : Type 0 where
  pub sorted : (j k : ℕ) → 0 < j → j < k → k < size q → Earlier (from_at q j) (word_at q j) (from_at q k) (word_at q k)

pub sorted_start : (w : ℕ) → SortedQueue (start_queue w)
sorted_start w = record { sorted = λ j k z h l. absurd (omega arith) }

-- the new word comes from the last place looked at, and is greater than those found there before
pub sorted_added : (i v : ℕ) {q : Queue} → length q.froms ≡ size q → SortedQueue q → ((j : ℕ) → 0 < j → j < size q → Earlier (from_at q j) (word_at q j) i v) → SortedQueue (added i q v)
sorted_added i v {q} even s newest = record { sorted = λ j k z h l. added_places i q v even After old new k l j z h }
  where
    After : ℕ → ℕ → ℕ → Type 0
    After k x g = (j : ℕ) → 0 < j → j < k → Earlier (from_at (added i q v) j) (word_at (added i q v) j) g x

    old : (k : ℕ) → k < size q → After k (word_at q k) (from_at q k)
    old k l j z h = let d : j < size q = omega arith in rw (from_old i q v even j d, word_old i q v j d) (s.sorted j k z h l)

    new : After (size q) v i
    new j z h = rw (from_old i q v even j h, word_old i q v j h) (newest j z h)

-- x is in the queue, found from place i or before
pub record Has (i x : ℕ) (q : Queue) : Type 0 where
  pub place : ℕ
  pub inside : place < size q
  pub word : word_at q place ≡ x
  pub found_from : from_at q place ≤ i

pub has_added : (i v : ℕ) {q : Queue} {k x : ℕ} → length q.froms ≡ size q → Has k x q → Has k x (added i q v)
has_added i v {q} even h = record {
  place = h.place;
  inside = rw (size_added i q v) (omega arith);
  word = word_old i q v h.place h.inside ∙ h.word;
  found_from = rw (from_old i q v even h.place h.inside) h.found_from;
}

pub has_new : (i : ℕ) (q : Queue) (v : ℕ) → length q.froms ≡ size q → Has i v (added i q v)
has_new i q v even = record {
  place = size q;
  inside = rw (size_added i q v) (omega arith);
  word = word_new i q v;
  found_from = rw (from_new i q v even) (omega arith);
}

-- The queue one offer at a time: what an offer does, which words are in the queue, and what stands where after one was added.
-- An offer is looked at by its two cases; places are those of lists with one element more at the end.
use Prim.Native.Nat.{ℕ, suc, ◌<◌}
use mathlib.Core.Path.{◌≡◌, refl, sym, ◌∙◌}
use mathlib.Core.Logic.{◌⊎◌, inl, inr}
use mathlib.Core.List.{List, [], ◌∷◌, ◌++◌}
use mathlib.Core.Bool.{Bool, true, false}
use native.Mathlib.Nat.{eq-or-lt_of_le, le_of_suc-le-suc}
use native.Mathlib.Numerals.{add-one}
use native.Mathlib.Omega.{arith}
use lib.ListN.{length, get_or, length-append, get_or-append}
use lib.Seq.{get_or_at}
use lib.Dec.{eqb}
use borrow.Author.Tests.{eq-eqb}
use Rattle.model.proofs.BoolLaws.{both_ways}
use Rattle.model.proofs.ListLaws.{true_any, any_mem}
use Rattle.model.proofs.PlaceLaws.{mem_get_or, get_or_mem}
use Rattle.least.specs.Queue.{Queue, in_queue, offer_if, offer, offer_all}

-- how many words were found
abbrev pub size : Queue → ℕ
size q = length q.words

-- the word at a place
abbrev pub word_at : Queue → ℕ → ℕ
word_at q j = get_or q.words j 0

-- the place from which it was found
abbrev pub from_at : Queue → ℕ → ℕ
from_at q j = get_or q.froms j 0

-- the queue that the search starts with
abbrev pub start_queue : ℕ → Queue
start_queue w = record { words = w ∷ []; froms = 0 ∷ [] }

-- the queue with v, found from place i, at its end
abbrev pub added : ℕ → Queue → ℕ → Queue
added i q v = record { words = q.words ++ (v ∷ []); froms = q.froms ++ (i ∷ []) }

-- an offer adds the word or leaves the queue as it is
pub offer_cases : (P : Queue → Type 0) (i : ℕ) (q : Queue) (v : ℕ) → (in_queue q v ≡ true → P q) → (in_queue q v ≡ false → P (added i q v)) → P (offer i q v)
unfolding offer
offer_cases P i q v there new = go (in_queue q v) refl
  where
    go : (t : Bool) → in_queue q v ≡ t → P (offer_if t i q v)
    go true e = there e
    go false e = new e

pub offer_all_none : (i : ℕ) (q : Queue) → offer_all i q [] ≡ q
unfolding offer_all
offer_all_none i q = refl

pub offer_all_cons : (i : ℕ) (q : Queue) (v : ℕ) (vs : List ℕ) → offer_all i q (v ∷ vs) ≡ offer_all i (offer i q v) vs
unfolding offer_all
offer_all_cons i q v vs = refl

-- a word is in the queue exactly where it stands at a place

pub in_place : (q : Queue) (v : ℕ) → in_queue q v ≡ true → (j : ℕ) × (j < size q) × (word_at q j ≡ v)
in_place q v e = mem_get_or 0 (any_mem v q.words e)

pub place_in : (q : Queue) (j : ℕ) {v : ℕ} → j < size q → word_at q j ≡ v → in_queue q v ≡ true
place_in q j {v} h e = true_any (eqb v) (get_or_mem 0 q.words j h) (eq-eqb v (word_at q j) (sym e))

pub not_in_place : (q : Queue) (v : ℕ) → in_queue q v ≡ false → (j : ℕ) → j < size q → word_at q j ≡ v → ⊥
not_in_place q v e j h r = both_ways (place_in q j h r) e

-- places after a word was added

pub length_appended : {A : Type 0} (l : List A) (v : A) → length (l ++ (v ∷ [])) ≡ suc (length l)
length_appended l v = length-append l (v ∷ []) ∙ add-one (length l)

pub size_added : (i : ℕ) (q : Queue) (v : ℕ) → size (added i q v) ≡ suc (size q)
size_added i q v = length_appended q.words v

pub word_old : (i : ℕ) (q : Queue) (v j : ℕ) → j < size q → word_at (added i q v) j ≡ word_at q j
word_old i q v j h = get_or-append q.words (v ∷ []) 0 j h

pub word_new : (i : ℕ) (q : Queue) (v : ℕ) → word_at (added i q v) (size q) ≡ v
word_new i q v = get_or_at q.words v [] 0 (size q) refl

module _ (i : ℕ) (q : Queue) (v : ℕ) (even : length q.froms ≡ size q) where
  pub from_old : (j : ℕ) → j < size q → from_at (added i q v) j ≡ from_at q j
  from_old j h = get_or-append q.froms (i ∷ []) 0 j (omega arith)

  pub from_new : from_at (added i q v) (size q) ≡ i
  from_new = get_or_at q.froms i [] 0 (size q) even

  -- what holds of each place and of the new one holds of each place then
  pub added_places : (P : ℕ → ℕ → ℕ → Type 0) → ((j : ℕ) → j < size q → P j (word_at q j) (from_at q j)) → P (size q) v i
      → (j : ℕ) → j < size (added i q v) → P j (word_at (added i q v) j) (from_at (added i q v) j)
  added_places P old new j h = go (eq-or-lt_of_le (le_of_suc-le-suc (rw (size_added i q v) at h)))
    where
      go : (j ≡ size q) ⊎ (j < size q) → P j (word_at (added i q v) j) (from_at (added i q v) j)
      go (inl e) = rw (e, word_new i q v, from_new) new
      go (inr l) = rw (word_old i q v j l, from_old j l) (old j l)

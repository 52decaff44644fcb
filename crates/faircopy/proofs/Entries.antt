-- Lists of one length laid one after another: the k-th of the i-th list stands at length × i + k. By induction on the lists.
use Prim.Native.Nat.{ℕ, zero, suc, ◌+◌, ◌-◌, ◌*◌, ◌<◌}
use native.Mathlib.Omega.{arith}
use native.Mathlib.Nat.{mul-suc, mul-zero}
use mathlib.Core.List.{List, [], ◌∷◌, ◌++◌, map, flatten}
use mathlib.Core.Path.{◌≡◌, refl, sym, ◌∙◌, ap, subst}
use mathlib.Core.Bool.{Bool, true, false}
use lib.ListN.{length, get_or, length-append, get_or-append}
use lib.Seq.{get_or-append-add}
use lib.Dec.{ltb}
use borrow.Author.Tests.{ltb-true, ltb-false}

module _ (f : ℕ → List ℕ) (s : ℕ) (each : (x : ℕ) → length (f x) ≡ s) where
  pub length_entries : (l : List ℕ) → length (flatten (map f l)) ≡ s * length l
  unfolding flatten
  length_entries [] = sym (mul-zero s)
  length_entries (a ∷ l) = length-append (f a) (flatten (map f l)) ∙ omega (arith, each a, length_entries l, mul-suc s (length l))

  pub get_or_entries : (l : List ℕ) (i k : ℕ) → i < length l → k < s → get_or (flatten (map f l)) (s * i + k) 0 ≡ get_or (f (get_or l i 0)) k 0
  unfolding flatten
  get_or_entries [] i k h m = absurd (omega arith)
  get_or_entries (a ∷ l) zero k h m =
      ap (λ (n : ℕ). get_or (f a ++ flatten (map f l)) n 0) (let e : s * zero + k ≡ k = omega (arith, mul-zero s) in e) ∙
      get_or-append (f a) (flatten (map f l)) 0 k (omega (arith, each a))
  get_or_entries (a ∷ l) (suc i) k h m =
      ap (λ (n : ℕ). get_or (f a ++ flatten (map f l)) n 0) (let e : s * suc i + k ≡ length (f a) + (s * i + k) = omega (arith, each a, mul-suc s i) in e) ∙
      get_or-append-add (f a) (flatten (map f l)) (s * i + k) 0 ∙
      get_or_entries l i k (omega arith) m

  -- where all in each are small, all are
  pub small_entries : (n : ℕ) → 0 < n → ((x k : ℕ) → get_or (f x) k 0 < n) → (l : List ℕ) (i : ℕ) → get_or (flatten (map f l)) i 0 < n
  unfolding flatten
  small_entries n pos small [] i = pos
  small_entries n pos small (a ∷ l) i = go (ltb i s) refl (λ j. small_entries n pos small l j)
    where
      go : (t : Bool) → ltb i s ≡ t → ((j : ℕ) → get_or (flatten (map f l)) j 0 < n) → get_or (f a ++ flatten (map f l)) i 0 < n
      go true e rest = rw (get_or-append (f a) (flatten (map f l)) 0 i (omega (arith, each a, ltb-true i s e))) (small a i)
      go false e rest =
          subst (λ (m : ℕ). get_or (f a ++ flatten (map f l)) m 0 < n) (let q : length (f a) + (i - s) ≡ i = omega (arith, each a, ltb-false i s e) in q)
          (rw (get_or-append-add (f a) (flatten (map f l)) (i - s) 0) (rest (i - s)))

-- Lists in which no number stands twice: one number more at the end, and how long such a list of numbers below n can be.
-- The last by induction on n: the greatest number that is allowed stands in the list at most once, and is taken out.
use Prim.Native.Nat.{ℕ, zero, suc, ◌≤◌, ◌<◌}
use mathlib.Core.Path.{◌≡◌, refl, sym, ◌∙◌, ap}
use mathlib.Core.Logic.{◌⊎◌, inl, inr}
use mathlib.Core.List.Memᴰ
use mathlib.Core.List.{List, [], ◌∷◌, ◌++◌, Memᴰ}
use mathlib.Core.Bool.{Bool, true, false, not}
use native.Mathlib.Omega.{arith}
use lib.ListN.{length}
use lib.Dec.{eqb}
use borrow.Author.Tests.{eqb-true, eqb-false, ne_eqb, not-true}
use Rattle.model.specs.Lists.{cons_if, keep}
use Rattle.model.proofs.AscendingLaws.{NoRepeats}
use Rattle.model.proofs.ListLaws.{mem_keep, keep_all}

pub appended_no_repeats : (l : List ℕ) (v : ℕ) → NoRepeats l → (Memᴰ v l → ⊥) → NoRepeats (l ++ (v ∷ []))
appended_no_repeats [] v d h = (Memᴰ.not-nil, tt)
appended_no_repeats (a ∷ l) v d h = (λ m. again (Memᴰ.append_cases l m), appended_no_repeats l v d.1 (λ m. h (Memᴰ.tail m)))
  where
    again : Memᴰ a l ⊎ Memᴰ a (v ∷ []) → ⊥
    again (inl m) = d.0 m
    again (inr m) = h (Memᴰ.head (sym (Memᴰ.eq_of_singleton m)))

pub keep_no_repeats : (f : ℕ → Bool) (l : List ℕ) → NoRepeats l → NoRepeats (keep f l)
keep_no_repeats f [] d = tt
keep_no_repeats f (a ∷ l) d = go (f a) (keep_no_repeats f l d.1)
  where
    go : (t : Bool) → NoRepeats (keep f l) → NoRepeats (cons_if t a (keep f l))
    go true r = (λ m. d.0 (mem_keep f l m).0, r)
    go false r = r

abbrev other : ℕ → ℕ → Bool
other n v = not (eqb v n)

-- taking n out makes a list without repeats shorter by one at most
keep_other_length : (n : ℕ) (l : List ℕ) → NoRepeats l → length l ≤ suc (length (keep (other n) l))
keep_other_length n [] d = omega arith
keep_other_length n (a ∷ l) d = go (eqb a n) refl (keep_other_length n l d.1)
  where
    rest_other : a ≡ n → (x : ℕ) → Memᴰ x l → other n x ≡ true
    rest_other e x m = ap not (ne_eqb x n (λ q. d.0 (Memᴰ.cast (e ∙ sym q) m)))

    go : (t : Bool) → eqb a n ≡ t → length l ≤ suc (length (keep (other n) l)) → suc (length l) ≤ suc (length (cons_if (not t) a (keep (other n) l)))
    go true e h = let k : length (keep (other n) l) ≡ length l = ap length (keep_all (other n) l (rest_other (eqb-true a n e))) in omega arith
    go false e h = omega arith

pub no_repeats_length : (n : ℕ) (l : List ℕ) → NoRepeats l → ((x : ℕ) → Memᴰ x l → x < n) → length l ≤ n
no_repeats_length zero [] d h = omega arith
no_repeats_length zero (a ∷ l) d h = let b : a < 0 = h a (Memᴰ.head refl) in omega arith
no_repeats_length (suc n) l d h =
    let r : length (keep (other n) l) ≤ n = no_repeats_length n (keep (other n) l) (keep_no_repeats (other n) l d) lower in
    let s : length l ≤ suc (length (keep (other n) l)) = keep_other_length n l d in
    omega arith
  where
    lower : (x : ℕ) → Memᴰ x (keep (other n) l) → x < n
    lower x m =
        let k = mem_keep (other n) l m in
        let b : x < suc n = h x k.0 in
        let o : x ≡ n → ⊥ = eqb-false x n (not-true (eqb x n) k.1) in
        omega arith

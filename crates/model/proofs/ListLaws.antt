-- Laws of the list functions: members of what they give, one law for each way of taking a list apart.
-- Each goes by induction over the list; a test of the head is handed on with its equation.
use Prim.Native.Nat.{ℕ, zero, suc, ◌+◌, ◌≤◌, ◌<◌}
use mathlib.Core.Path.{◌≡◌, refl, sym, ◌∙◌, ap, ap₂, subst}
use mathlib.Core.Logic.{◌⊎◌, inl, inr}
use mathlib.Core.List.Memᴰ
use mathlib.Core.List.{List, [], ◌∷◌, ◌++◌, Memᴰ, foldl}
use mathlib.Core.Bool.{Bool, true, false, true≢false, false≢true, ◌&&◌, ◌||◌}
use mathlib.Core.Option.{none, some}
use native.Mathlib.Nat.{eq-or-lt_of_le}
use native.Mathlib.Omega.{arith}
use lib.ListN.{length, get_or, replicate, length-append}
use lib.Dec.{eqb}
use borrow.Author.Tests.{eqb-true, eq-eqb}
use Rattle.model.specs.Lists.{count_up, numbers_below, cons_if, keep, any_of, all_of, this_else, first, how_many, n_times}
use Rattle.model.proofs.BoolLaws.{and_left, and_right, both_ways, not_true_false, or_left, or_right}

-- numbers in a row

pub length_count_up : (k n : ℕ) → length (count_up k n) ≡ n
length_count_up k zero = refl
length_count_up k (suc n) = ap suc (length_count_up (suc k) n)

pub length_below : (n : ℕ) → length (numbers_below n) ≡ n
length_below n = length_count_up 0 n

pub get_or_count_up : (k n i d : ℕ) → i < n → get_or (count_up k n) i d ≡ k + i
get_or_count_up k zero i d h = absurd (omega arith)
get_or_count_up k (suc n) zero d h = omega arith
get_or_count_up k (suc n) (suc i) d h = get_or_count_up (suc k) n i d (omega arith) ∙ omega arith

pub get_or_below : (n i d : ℕ) → i < n → get_or (numbers_below n) i d ≡ i
get_or_below n i d h = get_or_count_up 0 n i d h ∙ omega arith

pub mem_count_up : (k n : ℕ) {x : ℕ} → Memᴰ x (count_up k n) → (k ≤ x) × (x < k + n)
mem_count_up k zero m = absurd (Memᴰ.not-nil m)
mem_count_up k (suc n) {x} m = go (Memᴰ.cases_cons m) (mem_count_up (suc k) n {x = x})
  where
    go : (x ≡ k) ⊎ Memᴰ x (count_up (suc k) n) → (Memᴰ x (count_up (suc k) n) → (suc k ≤ x) × (x < suc k + n)) → (k ≤ x) × (x < k + suc n)
    go (inl e) ih = omega arith
    go (inr i) ih = let r : (suc k ≤ x) × (x < suc k + n) = ih i in omega arith

pub count_up_mem : (k n x : ℕ) → k ≤ x → x < k + n → Memᴰ x (count_up k n)
count_up_mem k zero x h i = absurd (omega arith)
count_up_mem k (suc n) x h i = go (eq-or-lt_of_le h) (count_up_mem (suc k) n x)
  where
    go : (k ≡ x) ⊎ (k < x) → (suc k ≤ x → x < suc k + n → Memᴰ x (count_up (suc k) n)) → Memᴰ x (count_up k (suc n))
    go (inl e) ih = Memᴰ.head (sym e)
    go (inr l) ih = Memᴰ.tail (ih l (omega arith))

pub mem_below : (n : ℕ) {x : ℕ} → Memᴰ x (numbers_below n) → x < n
mem_below n {x} m = let r : (0 ≤ x) × (x < 0 + n) = mem_count_up 0 n m in omega arith

pub below_mem : (n x : ℕ) → x < n → Memᴰ x (numbers_below n)
below_mem n x h = count_up_mem 0 n x (omega arith) (omega arith)

pub count_up_suc : (k n : ℕ) → count_up k (suc n) ≡ count_up k n ++ ((k + n) ∷ [])
count_up_suc k zero = ap (λ (x : ℕ). x ∷ []) (omega arith)
count_up_suc k (suc n) = ap (λ (l : List ℕ). k ∷ l) (count_up_suc (suc k) n ∙ ap (λ (x : ℕ). count_up (suc k) n ++ (x ∷ [])) (omega arith))

-- a row of numbers in two parts
pub count_up_append : (k m n : ℕ) → count_up k (m + n) ≡ count_up k m ++ count_up (k + m) n
count_up_append k zero n =
    let none : 0 + n ≡ n = omega arith in
    let same : k ≡ k + 0 = omega arith in
    ap (count_up k) none ∙ ap (λ (x : ℕ). count_up x n) same
count_up_append k (suc m) n =
    let one : suc m + n ≡ suc (m + n) = omega arith in
    let shift : suc k + m ≡ k + suc m = omega arith in
    ap (count_up k) one ∙ ap (λ (l : List ℕ). k ∷ l) (count_up_append (suc k) m n ∙ ap (λ (x : ℕ). count_up (suc k) m ++ count_up x n) shift)

pub below_suc : (n : ℕ) → numbers_below (suc n) ≡ numbers_below n ++ (n ∷ [])
below_suc n = count_up_suc 0 n ∙ ap (λ (x : ℕ). numbers_below n ++ (x ∷ [])) (omega arith)

module _ {A : Type 0} where
  -- keep

  pub mem_keep : (f : A → Bool) (l : List A) {x : A} → Memᴰ x (keep f l) → Memᴰ x l × (f x ≡ true)
  mem_keep f [] m = absurd (Memᴰ.not-nil m)
  mem_keep f (a ∷ l) {x} m = go (f a) refl m (mem_keep f l {x = x})
    where
      here : f a ≡ true → (Memᴰ x (keep f l) → Memᴰ x l × (f x ≡ true)) → (x ≡ a) ⊎ Memᴰ x (keep f l) → Memᴰ x (a ∷ l) × (f x ≡ true)
      here e ih (inl q) = (Memᴰ.head q, ap f q ∙ e)
      here e ih (inr i) = (Memᴰ.tail (ih i).0, (ih i).1)

      go : (t : Bool) → f a ≡ t → Memᴰ x (cons_if t a (keep f l)) → (Memᴰ x (keep f l) → Memᴰ x l × (f x ≡ true)) → Memᴰ x (a ∷ l) × (f x ≡ true)
      go true e i ih = here e ih (Memᴰ.cases_cons i)
      go false e i ih = (Memᴰ.tail (ih i).0, (ih i).1)

  cons_if_head : (t : Bool) (a : A) (l : List A) {x : A} → x ≡ a → t ≡ true → Memᴰ x (cons_if t a l)
  cons_if_head true a l q e = Memᴰ.head q
  cons_if_head false a l q e = absurd (false≢true e)

  cons_if_tail : (t : Bool) (a : A) (l : List A) {x : A} → Memᴰ x l → Memᴰ x (cons_if t a l)
  cons_if_tail true a l m = Memᴰ.tail m
  cons_if_tail false a l m = m

  pub keep_mem : (f : A → Bool) {x : A} {l : List A} → Memᴰ x l → f x ≡ true → Memᴰ x (keep f l)
  keep_mem f {x = x} (Memᴰ.head {x = a} {xs = l} q) e = cons_if_head (f a) a (keep f l) q (ap f (sym q) ∙ e)
  keep_mem f {x = x} (Memᴰ.tail {x = a} {xs = l} m) e = cons_if_tail (f a) a (keep f l) (keep_mem f m e)

  cons_if_append : (t : Bool) (a : A) (l m : List A) → cons_if t a (l ++ m) ≡ cons_if t a l ++ m
  cons_if_append true a l m = refl
  cons_if_append false a l m = refl

  pub keep_append : (f : A → Bool) (l m : List A) → keep f (l ++ m) ≡ keep f l ++ keep f m
  keep_append f [] m = refl
  keep_append f (a ∷ l) m = ap (cons_if (f a) a) (keep_append f l m) ∙ cons_if_append (f a) a (keep f l) (keep f m)

  -- tests that agree on the members keep the same
  pub keep_ext : (f g : A → Bool) (l : List A) → ((x : A) → Memᴰ x l → f x ≡ g x) → keep f l ≡ keep g l
  keep_ext f g [] h = refl
  keep_ext f g (a ∷ l) h = ap₂ (λ (t : Bool) (r : List A). cons_if t a r) (h a (Memᴰ.head refl)) (keep_ext f g l (λ x m. h x (Memᴰ.tail m)))

  pub keep_all : (f : A → Bool) (l : List A) → ((x : A) → Memᴰ x l → f x ≡ true) → keep f l ≡ l
  keep_all f [] h = refl
  keep_all f (a ∷ l) h = ap₂ (λ (t : Bool) (r : List A). cons_if t a r) (h a (Memᴰ.head refl)) (keep_all f l (λ x m. h x (Memᴰ.tail m)))

  pub keep_none : (f : A → Bool) (l : List A) → ((x : A) → Memᴰ x l → f x ≡ false) → keep f l ≡ []
  keep_none f [] h = refl
  keep_none f (a ∷ l) h = ap₂ (λ (t : Bool) (r : List A). cons_if t a r) (h a (Memᴰ.head refl)) (keep_none f l (λ x m. h x (Memᴰ.tail m)))

  -- two tests in turn are both at once
  pub keep_keep : (f g : A → Bool) (l : List A) → keep f (keep g l) ≡ keep (λ x. g x && f x) l
  keep_keep f g [] = refl
  keep_keep f g (a ∷ l) = go (g a) refl (keep_keep f g l)
    where
      go : (t : Bool) → g a ≡ t → keep f (keep g l) ≡ keep (λ x. g x && f x) l → keep f (cons_if t a (keep g l)) ≡ cons_if (t && f a) a (keep (λ x. g x && f x) l)
      go true e ih = ap (cons_if (f a) a) ih
      go false e ih = ih

  -- any and all

  pub any_true : (f : A → Bool) (l : List A) → any_of f l ≡ true → (x : A) × Memᴰ x l × (f x ≡ true)
  any_true f [] e = absurd (false≢true e)
  any_true f (a ∷ l) e = go (f a) refl e (any_true f l)
    where
      go : (t : Bool) → f a ≡ t → (t || any_of f l) ≡ true → (any_of f l ≡ true → (x : A) × Memᴰ x l × (f x ≡ true)) → (x : A) × Memᴰ x (a ∷ l) × (f x ≡ true)
      go true q h ih = (a, Memᴰ.head refl, q)
      go false q h ih = let r = ih h in (r.0, Memᴰ.tail r.1, r.2)

  pub true_any : (f : A → Bool) {x : A} {l : List A} → Memᴰ x l → f x ≡ true → any_of f l ≡ true
  true_any f (Memᴰ.head {x = a} {xs = l} q) e = or_left (f a) (any_of f l) (ap f (sym q) ∙ e)
  true_any f (Memᴰ.tail {x = a} {xs = l} m) e = or_right (f a) (any_of f l) (true_any f m e)

  pub any_ext : (f g : A → Bool) (l : List A) → ((x : A) → Memᴰ x l → f x ≡ g x) → any_of f l ≡ any_of g l
  any_ext f g [] h = refl
  any_ext f g (a ∷ l) h = ap₂ (λ (s t : Bool). s || t) (h a (Memᴰ.head refl)) (any_ext f g l (λ x m. h x (Memᴰ.tail m)))

  pub any_false : (f : A → Bool) {l : List A} → any_of f l ≡ false → {x : A} → Memᴰ x l → f x ≡ false
  any_false f e {x} m = not_true_false (f x) (λ q. true≢false (sym (true_any f m q) ∙ e))

  pub false_any : (f : A → Bool) (l : List A) → ((x : A) → Memᴰ x l → f x ≡ false) → any_of f l ≡ false
  false_any f l h = not_true_false (any_of f l) (λ e. let r = any_true f l e in true≢false (sym r.2 ∙ h r.0 r.1))

  pub all_true : (f : A → Bool) {x : A} {l : List A} → all_of f l ≡ true → Memᴰ x l → f x ≡ true
  all_true f e (Memᴰ.head {x = a} {xs = l} q) = ap f q ∙ and_left (f a) (all_of f l) e
  all_true f e (Memᴰ.tail {x = a} {xs = l} m) = all_true f (and_right (f a) (all_of f l) e) m

  pub true_all : (f : A → Bool) (l : List A) → ((x : A) → Memᴰ x l → f x ≡ true) → all_of f l ≡ true
  true_all f [] h = refl
  true_all f (a ∷ l) h = ap₂ (λ (s t : Bool). s && t) (h a (Memᴰ.head refl)) (true_all f l (λ x m. h x (Memᴰ.tail m)))

  pub all_false : (f : A → Bool) (l : List A) → all_of f l ≡ false → (x : A) × Memᴰ x l × (f x ≡ false)
  all_false f [] e = absurd (true≢false e)
  all_false f (a ∷ l) e = go (f a) refl e (all_false f l)
    where
      go : (t : Bool) → f a ≡ t → (t && all_of f l) ≡ false → (all_of f l ≡ false → (x : A) × Memᴰ x l × (f x ≡ false)) → (x : A) × Memᴰ x (a ∷ l) × (f x ≡ false)
      go true q h ih = let r = ih h in (r.0, Memᴰ.tail r.1, r.2)
      go false q h ih = (a, Memᴰ.head refl, q)

  -- first

  pub first_some : (f : A → Bool) (l : List A) {x : A} → first f l ≡ some x → Memᴰ x l × (f x ≡ true)
  first_some f [] {x} e = absurd (let z : ◌≡◌ {A = ℕ} 0 1 = cc in omega arith)
  first_some f (a ∷ l) {x} e = go (f a) refl e (first_some f l {x = x})
    where
      go : (t : Bool) → f a ≡ t → this_else t a (first f l) ≡ some x → (first f l ≡ some x → Memᴰ x l × (f x ≡ true)) → Memᴰ x (a ∷ l) × (f x ≡ true)
      go true q h ih = let s : x ≡ a = cc in (Memᴰ.head s, ap f s ∙ q)
      go false q h ih = (Memᴰ.tail (ih h).0, (ih h).1)

  pub first_none : (f : A → Bool) {x : A} {l : List A} → first f l ≡ none → Memᴰ x l → f x ≡ false
  first_none f e (Memᴰ.head {x = a} {xs = l} q) = ap f q ∙ go (f a) e
    where
      go : (t : Bool) → this_else t a (first f l) ≡ none → t ≡ false
      go true h = absurd (let z : ◌≡◌ {A = ℕ} 0 1 = cc in omega arith)
      go false h = refl
  first_none f e (Memᴰ.tail {x = a} {xs = l} m) = first_none f (go (f a) e) m
    where
      go : (t : Bool) → this_else t a (first f l) ≡ none → first f l ≡ none
      go true h = absurd (let z : ◌≡◌ {A = ℕ} 0 1 = cc in omega arith)
      go false h = h

  -- how many pass

  pub how_many_append : (f : A → Bool) (l m : List A) → how_many f (l ++ m) ≡ how_many f l + how_many f m
  how_many_append f l m = ap length (keep_append f l m) ∙ length-append (keep f l) (keep f m)

  pub how_many_ext : (f g : A → Bool) (l : List A) → ((x : A) → Memᴰ x l → f x ≡ g x) → how_many f l ≡ how_many g l
  how_many_ext f g l h = ap length (keep_ext f g l h)

  pub how_many_none : (f : A → Bool) (l : List A) → ((x : A) → Memᴰ x l → f x ≡ false) → how_many f l ≡ 0
  how_many_none f l h = ap length (keep_none f l h)

  pub how_many_all : (f : A → Bool) (l : List A) → ((x : A) → Memᴰ x l → f x ≡ true) → how_many f l ≡ length l
  how_many_all f l h = ap length (keep_all f l h)

  pub how_many_pass : (f : A → Bool) (a : A) (l : List A) → f a ≡ true → how_many f (a ∷ l) ≡ suc (how_many f l)
  how_many_pass f a l e = ap (λ (t : Bool). length (cons_if t a (keep f l))) e

  pub how_many_skip : (f : A → Bool) (a : A) (l : List A) → f a ≡ false → how_many f (a ∷ l) ≡ how_many f l
  how_many_skip f a l e = ap (λ (t : Bool). length (cons_if t a (keep f l))) e

  -- a test that passes no less counts no less
  pub how_many_mono : (f g : A → Bool) (l : List A) → ((x : A) → Memᴰ x l → f x ≡ true → g x ≡ true) → how_many f l ≤ how_many g l
  how_many_mono f g [] h = omega arith
  how_many_mono f g (a ∷ l) h = go (f a) (g a) (h a (Memᴰ.head refl)) (how_many_mono f g l (λ x m. h x (Memᴰ.tail m)))
    where
      go : (s t : Bool) → (s ≡ true → t ≡ true) → how_many f l ≤ how_many g l → length (cons_if s a (keep f l)) ≤ length (cons_if t a (keep g l))
      go true true i ih = omega arith
      go true false i ih = absurd (false≢true (i refl))
      go false true i ih = omega arith
      go false false i ih = ih

  -- and more, where a member passes the one alone
  pub how_many_less : (f g : A → Bool) (l : List A) → ((x : A) → Memᴰ x l → f x ≡ true → g x ≡ true) → {k : A} → Memᴰ k l → f k ≡ false → g k ≡ true → how_many f l < how_many g l
  how_many_less f g [] h m p q = absurd (Memᴰ.not-nil m)
  how_many_less f g (a ∷ l) h {k} m p q =
      go (f a) refl (g a) refl (h a (Memᴰ.head refl)) (how_many_mono f g l (λ x m. h x (Memᴰ.tail m))) (λ m. how_many_less f g l (λ x m. h x (Memᴰ.tail m)) m p q) (Memᴰ.cases_cons m)
    where
      go : (s : Bool) → f a ≡ s → (t : Bool) → g a ≡ t → (s ≡ true → t ≡ true) → how_many f l ≤ how_many g l → (Memᴰ k l → how_many f l < how_many g l) → (k ≡ a) ⊎ Memᴰ k l → length (cons_if s a (keep f l)) < length (cons_if t a (keep g l))
      go true e true d i w ih (inl r) = both_ways (ap f r ∙ e) p
      go true e true d i w ih (inr n) = let b : how_many f l < how_many g l = ih n in omega arith
      go true e false d i w ih c = absurd (false≢true (i refl))
      go false e true d i w ih c = omega arith
      go false e false d i w ih (inl r) = both_ways q (ap g r ∙ d)
      go false e false d i w ih (inr n) = ih n

  pub how_many_length : (f : A → Bool) (l : List A) → how_many f l ≤ length l
  how_many_length f l = subst (λ (n : ℕ). how_many f l ≤ n) (how_many_all (λ _. true) l (λ _ _. refl)) (how_many_mono f (λ _. true) l (λ _ _ _. refl))

  -- n times

  -- what holds at first and is kept each time holds at the end
  pub n_times_keeps : (P : A → Type 0) (f : A → A) → ((a : A) → P a → P (f a)) → (n : ℕ) (a : A) → P a → P (n_times n f a)
  n_times_keeps P f h zero a p = p
  n_times_keeps P f h (suc n) a p = n_times_keeps P f h n (f a) (h a p)

module _ {A B : Type 0} where
  -- what holds at first and is kept by each member holds at the end
  pub foldl_keeps : (P : B → Type 0) (f : B → A → B) (l : List A) → ((b : B) (a : A) → Memᴰ a l → P b → P (f b a)) → (b : B) → P b → P (foldl f b l)
  foldl_keeps P f [] h b p = p
  foldl_keeps P f (a ∷ l) h b p = foldl_keeps P f l (λ c x m. h c x (Memᴰ.tail m)) (f b a) (h b a (Memᴰ.head refl) p)

-- the lowest number that passes is the first one kept; the others pass a second test
pub keep_lowest : (f g : ℕ → Bool) (k n p : ℕ) → k ≤ p → p < k + n → f p ≡ true → g p ≡ false → ((j : ℕ) → k ≤ j → j < p → f j ≡ false) → ((j : ℕ) → k ≤ j → (j ≡ p → ⊥) → f j ≡ g j)
    → keep f (count_up k n) ≡ p ∷ keep g (count_up k n)
keep_lowest f g k zero p a b t u least other = absurd (omega arith)
keep_lowest f g k (suc n) p a b t u least other =
    go (eq-or-lt_of_le a) (λ l. keep_lowest f g (suc k) n p l (omega arith) t u (λ j c d. least j (omega arith) d) (λ j c d. other j (omega arith) d))
  where
    go : (k ≡ p) ⊎ (k < p) → (k < p → keep f (count_up (suc k) n) ≡ p ∷ keep g (count_up (suc k) n)) → keep f (count_up k (suc n)) ≡ p ∷ keep g (count_up k (suc n))
    go (inl e) ih =
        ap₂ (λ (s : Bool) (r : List ℕ). cons_if s k r) (ap f e ∙ t) (keep_ext f g (count_up (suc k) n) (λ x m. other x (omega (arith, (mem_count_up (suc k) n m).0)) (λ q. omega (arith, (mem_count_up (suc k) n m).0)))) ∙
        ap₂ (λ (x : ℕ) (s : Bool). x ∷ cons_if s k (keep g (count_up (suc k) n))) e (sym (ap g e ∙ u))
    go (inr l) ih =
        let fails : f k ≡ false = least k (omega arith) l in
        ap₂ (λ (s : Bool) (r : List ℕ). cons_if s k r) fails (ih l) ∙
        ap (λ (s : Bool). p ∷ cons_if s k (keep g (count_up (suc k) n))) (sym (sym (other k (omega arith) (λ q. omega arith)) ∙ fails))

-- a number is in a list exactly where some element equals it

pub any_mem : (x : ℕ) (l : List ℕ) → any_of (eqb x) l ≡ true → Memᴰ x l
any_mem x l e = let r = any_true (eqb x) l e in Memᴰ.cast (eqb-true x r.0 r.2) r.1

pub mem_any : {x : ℕ} {l : List ℕ} → Memᴰ x l → any_of (eqb x) l ≡ true
mem_any {x} m = true_any (eqb x) m (eq-eqb x x refl)

-- a test over two lists, one after the other
pub any_append : (f : ℕ → Bool) (l m : List ℕ) → any_of f (l ++ m) ≡ (any_of f l || any_of f m)
any_append f [] m = refl
any_append f (a ∷ l) m = ap (λ (t : Bool). f a || t) (any_append f l m) ∙ or_assoc (f a) (any_of f l) (any_of f m)
  where
    or_assoc : (r s t : Bool) → (r || (s || t)) ≡ ((r || s) || t)
    or_assoc true s t = refl
    or_assoc false s t = refl

-- in zeros, and past their end, is 0
pub get_or_zeros : (n i : ℕ) → ◌≡◌ {A = ℕ} (get_or (replicate n 0) i 0) 0
get_or_zeros zero i = refl
get_or_zeros (suc n) zero = refl
get_or_zeros (suc n) (suc i) = get_or_zeros n i

-- tests over the numbers below n

pub any_below : (f : ℕ → Bool) (n : ℕ) → any_of f (numbers_below n) ≡ true → (x : ℕ) × (x < n) × (f x ≡ true)
any_below f n e = let r = any_true f (numbers_below n) e in (r.0, mem_below n r.1, r.2)

pub below_any : (f : ℕ → Bool) (n x : ℕ) → x < n → f x ≡ true → any_of f (numbers_below n) ≡ true
below_any f n x h e = true_any f (below_mem n x h) e

pub any_below_false : (f : ℕ → Bool) (n : ℕ) → any_of f (numbers_below n) ≡ false → (x : ℕ) → x < n → f x ≡ false
any_below_false f n e x h = any_false f e (below_mem n x h)

pub below_any_false : (f : ℕ → Bool) (n : ℕ) → ((x : ℕ) → x < n → f x ≡ false) → any_of f (numbers_below n) ≡ false
below_any_false f n h = false_any f (numbers_below n) (λ x m. h x (mem_below n m))

pub all_below : (f : ℕ → Bool) (n : ℕ) → all_of f (numbers_below n) ≡ true → (x : ℕ) → x < n → f x ≡ true
all_below f n e x h = all_true f e (below_mem n x h)

pub below_all : (f : ℕ → Bool) (n : ℕ) → ((x : ℕ) → x < n → f x ≡ true) → all_of f (numbers_below n) ≡ true
below_all f n h = true_all f (numbers_below n) (λ x m. h x (mem_below n m))

pub all_below_false : (f : ℕ → Bool) (n : ℕ) → all_of f (numbers_below n) ≡ false → (x : ℕ) × (x < n) × (f x ≡ false)
all_below_false f n e = let r = all_false f (numbers_below n) e in (r.0, mem_below n r.1, r.2)

-- what `first` over the numbers below n says of the number that it gives
pub record FirstBelow (f : ℕ → Bool) (n k : ℕ) : Type 0 where
  pub small : k < n
  pub passes : f k ≡ true
  pub none_lower : (j : ℕ) → j < k → f j ≡ false

record FirstUp (f : ℕ → Bool) (s n k : ℕ) : Type 0 where
  large : s ≤ k
  small : k < s + n
  passes : f k ≡ true
  none_lower : (j : ℕ) → s ≤ j → j < k → f j ≡ false

first_count_up : (f : ℕ → Bool) (s n : ℕ) {k : ℕ} → first f (count_up s n) ≡ some k → FirstUp f s n k
first_count_up f s zero {k} e = absurd (let z : ◌≡◌ {A = ℕ} 0 1 = cc in omega arith)
first_count_up f s (suc n) {k} e = go (f s) refl e (first_count_up f (suc s) n {k = k})
  where
    go : (t : Bool) → f s ≡ t → this_else t s (first f (count_up (suc s) n)) ≡ some k → (first f (count_up (suc s) n) ≡ some k → FirstUp f (suc s) n k) → FirstUp f s (suc n) k
    go true q h ih =
        let r : k ≡ s = cc in
        record { large = omega arith; small = omega arith; passes = ap f r ∙ q; none_lower = λ j a b. absurd (omega arith) }
    go false q h ih =
        let r : FirstUp f (suc s) n k = ih h in
        record { large = omega arith; small = omega arith; passes = r.passes; none_lower = λ j a b. lower r j b (eq-or-lt_of_le a) }
      where
        lower : FirstUp f (suc s) n k → (j : ℕ) → j < k → (s ≡ j) ⊎ (s < j) → f j ≡ false
        lower r j b (inl d) = ap f (sym d) ∙ q
        lower r j b (inr d) = r.none_lower j d b

count_up_first : (f : ℕ → Bool) (s n k : ℕ) → FirstUp f s n k → first f (count_up s n) ≡ some k
count_up_first f s zero k r = absurd (omega arith)
count_up_first f s (suc n) k r = go (f s) refl (eq-or-lt_of_le r.large) (count_up_first f (suc s) n k)
  where
    go : (t : Bool) → f s ≡ t → (s ≡ k) ⊎ (s < k) → (FirstUp f (suc s) n k → first f (count_up (suc s) n) ≡ some k) → this_else t s (first f (count_up (suc s) n)) ≡ some k
    go true q (inl d) ih = ap some d
    go true q (inr d) ih = both_ways q (r.none_lower s (omega arith) d)
    go false q (inl d) ih = both_ways r.passes (ap f (sym d) ∙ q)
    go false q (inr d) ih = ih (record { large = d; small = omega arith; passes = r.passes; none_lower = λ j a b. r.none_lower j (omega arith) b })

pub first_below : (f : ℕ → Bool) (n : ℕ) {k : ℕ} → first f (numbers_below n) ≡ some k → FirstBelow f n k
first_below f n {k} e =
    let r : FirstUp f 0 n k = first_count_up f 0 n e in
    record { small = omega arith; passes = r.passes; none_lower = λ j h. r.none_lower j (omega arith) h }

pub below_first : (f : ℕ → Bool) (n k : ℕ) → k < n → f k ≡ true → ((j : ℕ) → j < k → f j ≡ false) → first f (numbers_below n) ≡ some k
below_first f n k h e l = count_up_first f 0 n k (record { large = omega arith; small = omega arith; passes = e; none_lower = λ j _ b. l j b })

pub first_below_none : (f : ℕ → Bool) (n : ℕ) → first f (numbers_below n) ≡ none → (x : ℕ) → x < n → f x ≡ false
first_below_none f n e x h = first_none f e (below_mem n x h)

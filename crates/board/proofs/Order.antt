-- The rows in rising order: where the rows before one don't hold and it does, its number is the board's.
-- The definition computes once each test is known; what its parts say of the first rows, of the zones and of the links is put together in that order.
use Prim.Native.Nat.{ℕ, ◌≤◌}
use native.Mathlib.Omega.{arith}
use mathlib.Core.List.{List}
use mathlib.Core.Path.{◌≡◌, refl, sym, ◌∙◌}
use mathlib.Core.Bool.{Bool, true, false, cond}
use lib.Dec.{eqb}
use lib.ListN.{length}
use borrow.Author.Tests.{ltb-false, ne_eqb}
use Rattle.model.specs.Lists.{numbers_below, any_of}
use Rattle.model.specs.Reading.{Whole, zone_refusal, too_short, wrong_length, wrong_version, out_of_range, wrong_count, bad_zone, repeated, under_two, apart, refusal, zones_said, points_said}
use Rattle.model.proofs.ReadingLaws.{said_length, said_count}
use Rattle.board.specs.Inner.{head_refusal, link_refusal}

-- the first of two numbers, or the second where it is 0
abbrev first_of : ℕ → ℕ → ℕ
first_of n m = cond (eqb n 0) m n

first_refused : {n : ℕ} (m : ℕ) → (n ≡ 0 → ⊥) → first_of n m ≡ n
first_refused {n} m k = simp (ne_eqb n 0 k)

first_passed : {n : ℕ} (m : ℕ) → n ≡ 0 → first_of n m ≡ m
first_passed m e = rw e

-- a row's test that doesn't give its number
passed : (t : Bool) {r n : ℕ} → (r ≡ 0 → ⊥) → cond t r n ≡ 0 → (t ≡ false) × (n ≡ 0)
passed true k e = absurd (k e)
passed false k e = (refl, e)

module _ (b : List ℕ) where
  in_order : refusal b ≡ first_of (head_refusal b) (first_of (zone_refusal b) (link_refusal b))
  unfolding refusal head_refusal zone_refusal link_refusal
  in_order =
      go (too_short b) (wrong_length b) (wrong_version b) (out_of_range b) (wrong_count b) (any_of (bad_zone b) (numbers_below (zones_said b)))
      (any_of (repeated b) (numbers_below (zones_said b))) (link_refusal b)
    where
      go : (r₁ r₂ r₃ r₄ r₅ r₆ r₇ : Bool) (n : ℕ) → cond r₁ 1 (cond r₂ 2 (cond r₃ 3 (cond r₄ 4 (cond r₅ 5 (cond r₆ 6 (cond r₇ 7 n)))))) ≡
          first_of (cond r₁ 1 (cond r₂ 2 (cond r₃ 3 (cond r₄ 4 (cond r₅ 5 0))))) (first_of (cond r₆ 6 (cond r₇ 7 0)) n)
      go true r₂ r₃ r₄ r₅ r₆ r₇ n = refl
      go false true r₃ r₄ r₅ r₆ r₇ n = refl
      go false false true r₄ r₅ r₆ r₇ n = refl
      go false false false true r₅ r₆ r₇ n = refl
      go false false false false true r₆ r₇ n = refl
      go false false false false false true r₇ n = refl
      go false false false false false false true n = refl
      go false false false false false false false n = refl

  pub rows_1_5 : {n : ℕ} → n ≡ head_refusal b → (n ≡ 0 → ⊥) → n ≡ refusal b
  rows_1_5 h k = h ∙ sym (in_order ∙ first_refused _ (λ e. k (h ∙ e)))

  module _ (passed_head : 0 ≡ head_refusal b) where
    pub rows_6_7 : {n : ℕ} → n ≡ zone_refusal b → (n ≡ 0 → ⊥) → n ≡ refusal b
    rows_6_7 h k = h ∙ sym (in_order ∙ first_passed _ (sym passed_head) ∙ first_refused _ (λ e. k (h ∙ e)))

    pub rows_8_9 : 0 ≡ zone_refusal b → {n : ℕ} → n ≡ link_refusal b → n ≡ refusal b
    rows_8_9 z h = h ∙ sym (in_order ∙ first_passed _ (sym passed_head) ∙ first_passed _ (sym z))

  -- rows 6 and 7 by their tests
  pub row_6 : true ≡ any_of (bad_zone b) (numbers_below (zones_said b)) → 6 ≡ zone_refusal b
  unfolding zone_refusal
  row_6 e = sym (simp (sym e))

  pub row_7 : false ≡ any_of (bad_zone b) (numbers_below (zones_said b)) → true ≡ any_of (repeated b) (numbers_below (zones_said b)) → 7 ≡ zone_refusal b
  unfolding zone_refusal
  row_7 e f = sym (simp (sym e, sym f))

  pub neither_6_7 : false ≡ any_of (bad_zone b) (numbers_below (zones_said b)) → false ≡ any_of (repeated b) (numbers_below (zones_said b)) → 0 ≡ zone_refusal b
  unfolding zone_refusal
  neither_6_7 e f = sym (simp (sym e, sym f))

  pub no_bad_zone : 0 ≡ zone_refusal b → any_of (bad_zone b) (numbers_below (zones_said b)) ≡ false
  unfolding zone_refusal
  no_bad_zone e = (passed _ (λ (k : 6 ≡ 0). omega arith) (sym e)).0

  -- rows 8 and 9 by their tests
  pub row_8 : any_of (under_two b) (numbers_below (points_said b)) ≡ true → 8 ≡ link_refusal b
  unfolding link_refusal
  row_8 e = sym (simp e)

  pub row_9 : any_of (under_two b) (numbers_below (points_said b)) ≡ false → apart b ≡ true → 9 ≡ link_refusal b
  unfolding link_refusal
  row_9 e f = sym (simp (e, f))

  pub neither_8_9 : any_of (under_two b) (numbers_below (points_said b)) ≡ false → apart b ≡ false → 0 ≡ link_refusal b
  unfolding link_refusal
  neither_8_9 e f = sym (simp (e, f))

  -- what row 1 leaves
  pub six : too_short b ≡ false → 6 ≤ length b
  unfolding too_short
  six e = ltb-false (length b) 6 e

  pub whole : wrong_length b ≡ false → wrong_count b ≡ false → Whole b
  whole e f = omega (arith, said_length b e, said_count b f)

  -- what rows 1 to 5 leave
  module _ (e : 0 ≡ head_refusal b) where
    pub none_1_5 : (wrong_length b ≡ false) × (out_of_range b ≡ false) × (wrong_count b ≡ false)
    unfolding head_refusal
    none_1_5 =
        let r₁ = passed (too_short b) (λ (k : 1 ≡ 0). omega arith) (sym e) in
        let r₂ = passed (wrong_length b) (λ (k : 2 ≡ 0). omega arith) r₁.1 in
        let r₃ = passed (wrong_version b) (λ (k : 3 ≡ 0). omega arith) r₂.1 in
        let r₄ = passed (out_of_range b) (λ (k : 4 ≡ 0). omega arith) r₃.1 in
        let r₅ = passed (wrong_count b) (λ (k : 5 ≡ 0). omega arith) r₄.1 in
        (r₂.0, r₄.0, r₅.0)

    pub whole_head : Whole b
    whole_head = whole none_1_5.0 none_1_5.2

-- Tests over all words of a sheet, by what stands in each zone: whether a word is over the limit, and whether a carrier doesn't fit one byte.
-- A word of the sheet stands at a place, and past the last place is 0, which passes neither test.
use Prim.Native.Nat.{ℕ}
use native.Mathlib.Omega.{arith}
use mathlib.Core.Path.{◌≡◌, refl, sym, ◌∙◌, ap}
use mathlib.Core.Bool.{Bool, true, false, true≢false}
use lib.ListN.{length, get_or-eq_default}
use lib.Dec.{leb, ltb}
use borrow.Author.Tests.{leb-true, leb-false, lt-leb, ltb-true, ltb-false}
use Rattle.model.specs.Lists.{any_of}
use Rattle.model.specs.Position.{Position, at, carrier_of}
use Rattle.model.specs.Accepted.{held_limit, Limited}
use Rattle.model.proofs.BoolLaws.{not_true_false}
use Rattle.model.proofs.ListLaws.{any_true, any_false}
use Rattle.model.proofs.PlaceLaws.{mem_get_or, get_or_mem}
use Rattle.faircopy.specs.BoardBytes.{needs_two}
use Rattle.faircopy.specs.FairCopy.{AllFit, SomeOver}

module _ (f : ℕ → Bool) (p : Position) where
  -- some word passes, and no word does
  some_word : any_of f p ≡ true → (z : ℕ) × (f (at p z) ≡ true)
  some_word e =
      let x = any_true f p e in
      let z = mem_get_or 0 x.1 in
      (z.0, ap f z.2 ∙ x.2)

  no_word : f 0 ≡ false → any_of f p ≡ false → (z : ℕ) → f (at p z) ≡ false
  no_word free e z = go (ltb z (length p)) refl
    where
      go : (s : Bool) → ltb z (length p) ≡ s → f (at p z) ≡ false
      go true h = any_false f e (get_or_mem 0 p z (ltb-true z (length p) h))
      go false h = ap f (get_or-eq_default p 0 (ltb-false z (length p) h)) ∙ free

-- the limit of what a zone holds

pub limited_of : (p : Position) → any_of (leb held_limit) p ≡ false → Limited p
limited_of p e z = leb-false held_limit (at p z) (no_word (leb held_limit) p refl e z)

pub of_limited : (p : Position) → Limited p → any_of (leb held_limit) p ≡ false
of_limited p limited =
    not_true_false (any_of (leb held_limit) p) (λ e. let x = some_word (leb held_limit) p e in true≢false (sym x.1 ∙ lt-leb held_limit (at p x.0) (limited x.0)))

-- carriers that fit one byte

module _ (p : Position) where
  pub all_fit : needs_two p ≡ false → AllFit p
  unfolding needs_two
  all_fit e z = let l = leb-false _ (carrier_of (at p z)) (no_word _ p refl e z) in omega arith

  pub some_over : needs_two p ≡ true → SomeOver p
  unfolding needs_two
  some_over e = let x = some_word _ p e in (x.0, let l = leb-true _ (carrier_of (at p x.0)) x.1 in omega arith)

  pub over_not_fit : SomeOver p → AllFit p → ⊥
  over_not_fit over fit = omega (arith, over.1, fit over.0)

  pub needs_two_lem : SomeOver p → needs_two p ≡ true
  needs_two_lem over = go (needs_two p) refl
    where
      go : (s : Bool) → needs_two p ≡ s → s ≡ true
      go true e = refl
      go false e = absurd (over_not_fit over (all_fit e))

  pub needs_one : AllFit p → needs_two p ≡ false
  needs_one fit = not_true_false (needs_two p) (λ e. over_not_fit (some_over e) fit)

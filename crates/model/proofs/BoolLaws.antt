-- Facts of Booleans: a test is true or false, and what `and` and `or` of two say.
-- By cases.
use mathlib.Core.Path.{◌≡◌, refl, sym, ◌∙◌}
use mathlib.Core.Logic.{◌⊎◌, inl, inr}
use mathlib.Core.Bool.{Bool, true, false, true≢false, false≢true, ◌&&◌, ◌||◌}

pub both_ways : {t : Bool} {X : Type 0} → t ≡ true → t ≡ false → X
both_ways e q = absurd (true≢false (sym e ∙ q))

pub not_true_false : (t : Bool) → (t ≡ true → ⊥) → t ≡ false
not_true_false true h = absurd (h refl)
not_true_false false h = refl

-- a test is true or false, with the equation
pub decided : (t : Bool) → (t ≡ true) ⊎ (t ≡ false)
decided true = inl refl
decided false = inr refl

-- two tests that pass together are equal
pub same_test : (s t : Bool) → (s ≡ true → t ≡ true) → (t ≡ true → s ≡ true) → s ≡ t
same_test true t f g = sym (f refl)
same_test false true f g = g refl
same_test false false f g = refl

pub or_left : (s t : Bool) → s ≡ true → (s || t) ≡ true
or_left true t e = refl
or_left false t e = absurd (false≢true e)

pub or_right : (s t : Bool) → t ≡ true → (s || t) ≡ true
or_right true t e = refl
or_right false t e = e

pub or-true : (s : Bool) → (s || true) ≡ true
or-true true = refl
or-true false = refl

pub or_cases : (s t : Bool) → (s || t) ≡ true → (s ≡ true) ⊎ (t ≡ true)
or_cases true t e = inl refl
or_cases false t e = inr e

pub and_left : (s t : Bool) → (s && t) ≡ true → s ≡ true
and_left true t e = refl
and_left false t e = e

pub and_right : (s t : Bool) → (s && t) ≡ true → t ≡ true
and_right true t e = e
and_right false t e = absurd (false≢true e)

pub and_both : (s t : Bool) → s ≡ true → t ≡ true → (s && t) ≡ true
and_both true t e f = f
and_both false t e f = e

pub or_false_left : (s t : Bool) → (s || t) ≡ false → s ≡ false
or_false_left true t e = e
or_false_left false t e = refl

pub or_false_right : (s t : Bool) → (s || t) ≡ false → t ≡ false
or_false_right true t e = absurd (true≢false e)
or_false_right false t e = e

pub and_false_cases : (s t : Bool) → (s && t) ≡ false → (s ≡ false) ⊎ (t ≡ false)
and_false_cases true t e = inr e
and_false_cases false t e = inl refl

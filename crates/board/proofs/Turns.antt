-- A loop over the numbers below a byte that stops at the first that passes a test: what holds before each, and what is known at its end.
-- Where one passes it is met at its turn, and at the end none passed.
use Prim.Native.Nat.{ℕ, ◌≤◌, ◌<◌}
use native.Mathlib.Omega.{arith}
use mathlib.Core.List.{List}
use mathlib.Core.Path.{◌≡◌, sym, ◌∙◌, ap}
use mathlib.Core.Bool.{Bool, true, false}
use Rattle.model.specs.Lists.{numbers_below, any_of}
use Rattle.model.specs.Reading.{byte}
use Rattle.model.proofs.ListLaws.{below_any, below_any_false}
use Rattle.board.specs.Inner.{ByteAt}

-- none of the numbers below z passes
abbrev pub NoneBelow : (ℕ → Bool) → ℕ → Type 0
NoneBelow f z = (x : ℕ) → x < z → f x ≡ false

module _ (f : ℕ → Bool) {b : List ℕ} {i n z : ℕ} (N : ByteAt b i n) where
  -- one that passes was met
  pub met : z < n → f z ≡ true → true ≡ any_of f (numbers_below (byte b i))
  met l e = sym (below_any f (byte b i) z (rw N.is at l) e)

  -- the end was met
  pub none_met : NoneBelow f z → n ≤ z → false ≡ any_of f (numbers_below (byte b i))
  none_met none l = sym (below_any_false f (byte b i) (λ x k. none x (let s : n ≡ byte b i = N.is in omega arith)))

  -- what is known of all numbers met is known of all that the byte says
  pub all_met : {t : Bool} → z ≤ n → n ≤ z → t ≡ any_of f (numbers_below z) → t ≡ any_of f (numbers_below (byte b i))
  all_met l k e = e ∙ ap (λ (x : ℕ). any_of f (numbers_below x)) (let s : n ≡ byte b i = N.is in let q : z ≡ byte b i = omega arith in q)

-- A number put: its last digit, where there are more after what stands before it.
-- From the laws of decimals and of texts put one after another.
use Prim.Native.Nat.{ℕ, ◌+◌, ◌/◌, ◌%◌, ◌≤◌, ◌<◌}
use mathlib.Core.Path.{◌≡◌, ap, ◌∙◌}
use mathlib.Core.List.{[], ◌∷◌}
use native.Mathlib.Omega.{arith}
use Rattle.page.specs.declared.writing.Writing.{Writing}
use Rattle.page.specs.Page.{decimal}
use Rattle.page.specs.Writing.{TextRoom}
use Rattle.page.proofs.DecimalLaws.{decimal_few, decimal_more}
use Rattle.page.proofs.PutLaws.{Putting, starts}

module _ {n : ℕ} {w : Writing} where
  pub few_starts : n < 10 → TextRoom (decimal n) w → Putting (decimal n) w (((48 + n % 10) ∷ []) ∷ []) w
  few_starts few room =
      let one : decimal n ≡ (48 + n % 10) ∷ [] = decimal_few n few ∙ ap (λ (d : ℕ). (48 + d) ∷ []) (omega arith) in
      rw one (starts (((48 + n % 10) ∷ []) ∷ []) (rw one at room))

  pub more_starts : 10 ≤ n → TextRoom (decimal n) w → Putting (decimal n) w (decimal (n / 10) ∷ ((48 + n % 10) ∷ []) ∷ []) w
  more_starts more room = rw (decimal_more n more) (starts (decimal (n / 10) ∷ ((48 + n % 10) ∷ []) ∷ []) (rw (decimal_more n more) at room))

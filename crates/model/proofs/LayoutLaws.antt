-- How many bytes an entry has: five in version 2, four in version 1.
-- By computation.
use Prim.Native.Nat.{◌≤◌}
use native.Mathlib.Omega.{arith}
use mathlib.Core.Path.{◌≡◌, sym, ap}
use mathlib.Core.Bool.{Bool, true, false, cond}
use Rattle.model.specs.Layout.{stride}

pub five : {w : Bool} → w ≡ true → 5 ≡ stride w
unfolding stride
five e = sym (ap (λ (t : Bool). cond t 5 4) e)

pub four : {w : Bool} → w ≡ false → 4 ≡ stride w
unfolding stride
four e = sym (ap (λ (t : Bool). cond t 5 4) e)

pub stride_least : (w : Bool) → 4 ≤ stride w
unfolding stride
stride_least true = omega arith
stride_least false = omega arith

pub stride_most : (w : Bool) → stride w ≤ 5
unfolding stride
stride_most true = omega arith
stride_most false = omega arith

-- `bits::all` meets its contract: 64 ones less the highest are the ones of the numbers below n.
-- By `high_cut`: 64 ones are n ones before 64 - n ones, and the shift takes the latter away.
use Prim.Native.Nat.{ℕ, ◌+◌, ◌-◌, ◌*◌, ◌/◌, ◌^◌, ◌≤◌}
use mathlib.Core.Path.{◌≡◌, sym, ap, ◌∙◌}
use native.Mathlib.Omega.{arith}
use lib.Pow.{ones_split, ones_lt, high}
use Rattle.bits.proofs.all.Goals as goal

high_cut : (n : ℕ) → n ≤ 64 → (2 ^ 64 - 1) / 2 ^ (64 - n) ≡ 2 ^ n - 1
high_cut n h =
    let k : ℕ = 64 - n in
    let sum : n + k ≡ 64 = omega arith in
    let whole : 2 ^ 64 - 1 ≡ (2 ^ n - 1) * 2 ^ k + (2 ^ k - 1) = ap (λ (m : ℕ). 2 ^ m - 1) (sym sum) ∙ ones_split n k in
    ap (λ (m : ℕ). m / 2 ^ k) whole ∙ high (2 ^ n - 1) k (ones_lt k)

pub returns : goal.returns
returns c = high_cut c.args.n c.requires.1

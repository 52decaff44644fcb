-- Of k points, all are reached exactly when the size of what is grown is k.
-- What is reached is a set of numbers below k, which holds all of them where its size is k, and only there (FullLaws of `bits`).
use Prim.Native.Nat.{ℕ, ◌^◌, ◌≤◌, ◌<◌}
use mathlib.Core.Path.{◌≡◌, refl, sym, ◌∙◌}
use mathlib.Core.List.{List}
use mathlib.Core.Bool.{Bool, true, false}
use native.Mathlib.Omega.{arith}
use Rattle.model.specs.Lists.{numbers_below, how_many}
use Rattle.bits.specs.Sets.{has_bit}
use Rattle.bits.proofs.BitLaws.{word_of_bits}
use Rattle.bits.proofs.SizeLaws.{size_count}
use Rattle.bits.proofs.FullLaws.{full_all, all_full}
use Rattle.reach.specs.Ways.{Reach, Grown}

module _ {ways : List ℕ} {p r : ℕ} (k : ℕ) (few : k ≤ 64) (g : Grown ways p r) (inside : (q : ℕ) → Reach ways p q → q < k) where
  small : r < 2 ^ k
  small = word_of_bits 64 k r g.word (λ q l. go q l (has_bit r q) refl)
    where
      go : (q : ℕ) → k ≤ q → (b : Bool) → has_bit r q ≡ b → has_bit r q ≡ false
      go q l true e = let i : q < k = inside q (g.sound q e) in absurd (omega arith)
      go q l false e = e

  pub size_reached : how_many (has_bit r) (numbers_below 64) ≡ k → (q : ℕ) → q < k → Reach ways p q
  size_reached e q l = g.sound q (full_all k r q few small (size_count 64 r g.word ∙ e) l)

  pub reached_size : ((q : ℕ) → q < k → Reach ways p q) → how_many (has_bit r) (numbers_below 64) ≡ k
  reached_size all = sym (size_count 64 r g.word) ∙ all_full k r small (λ q l. g.whole q (all q l))

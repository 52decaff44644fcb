-- Who leaves in a sequence of retirements: each carrier once, each was out, and one that was out and does not leave is still out.
-- By induction over the sequence.
use Prim.Native.Nat.{ℕ, ◌+◌}
use mathlib.Core.Path.{◌≡◌, refl, sym}
use mathlib.Core.List.Memᴰ
use mathlib.Core.List.{List, ◌∷◌, Memᴰ}
use mathlib.Core.Bool.{Bool, true, false}
use mathlib.Core.Logic.{◌⊎◌, inl, inr}
use native.Mathlib.Omega.{arith}
use lib.ListN.{length}
use lib.Dec.{eqb}
use borrow.Author.Tests.{eqb-true, eqb-false}
use Rattle.model.specs.Track.{Track}
use Rattle.model.specs.Position.{Position, Stands, Out, Once, retire, outs}
use Rattle.model.proofs.AscendingLaws.{NoRepeats}
use Rattle.model.proofs.PositionLaws.{stands_retire, retire_stands, once_retire, outs_retire_length}
use Rattle.rules.specs.Routes.{Entry, leaving, Retires, done, next}
use Rattle.rules.specs.Tries.{NoneCanGo}
use Rattle.order.proofs.Within.{Within}
use Rattle.order.proofs.Fewer.{within_retire}
use Rattle.order.proofs.LastPosition.{goer_numbered, goer_out, goer_not_left}

module _ {t : Track} where
  pub leaving_out : {p q : Position} {es : List Entry} {c : ℕ} → Retires t p es q → Memᴰ c (leaving es) → Out p c
  leaving_out done m = absurd (Memᴰ.not-nil m)
  leaving_out {p} {c = c} (next {e = e} {es = es} g rs) m = go (Memᴰ.cases_cons m) (λ k. leaving_out rs k)
    where
      go : (c ≡ e.carrier) ⊎ Memᴰ c (leaving es) → (Memᴰ c (leaving es) → Out (retire e.carrier p) c) → Out p c
      go (inl f) ih = rw f (goer_out g)
      go (inr k) ih = let o = ih k in (o.0, (stands_retire e.carrier p o.1).0)

  pub leaves_or_out : {p q : Position} {es : List Entry} {c : ℕ} → Retires t p es q → Out p c → Memᴰ c (leaving es) ⊎ Out q c
  leaves_or_out done o = inr o
  leaves_or_out {p} {q} {c = c} (next {e = e} {es = es} g rs) (w, s) = go (eqb e.carrier c) refl (λ s. leaves_or_out rs (w, s))
    where
      later : Memᴰ c (leaving es) ⊎ Out q c → Memᴰ c (leaving (e ∷ es)) ⊎ Out q c
      later (inl m) = inl (Memᴰ.tail m)
      later (inr o) = inr o

      go : (b : Bool) → eqb e.carrier c ≡ b → (Stands (retire e.carrier p) c w → Memᴰ c (leaving es) ⊎ Out q c) → Memᴰ c (leaving (e ∷ es)) ⊎ Out q c
      go true f ih = inl (Memᴰ.head (sym (eqb-true _ _ f)))
      go false f ih = later (ih (retire_stands e.carrier s (eqb-false _ _ f)))

  -- none leaves twice
  pub leaving_once : {p q : Position} {es : List Entry} → Retires t p es q → NoRepeats (leaving es)
  leaving_once done = tt
  leaving_once {p} (next {e = e} g rs) = (λ m. (stands_retire e.carrier p (leaving_out rs m).1).1 refl, leaving_once rs)

  -- each retirement leaves one fewer out
  pub leaving_count : {p q : Position} {es : List Entry} → Once p → Retires t p es q → length es + length (outs q) ≡ length (outs p)
  leaving_count once done = omega arith
  leaving_count {p} {q} once (next {e = e} {es = es} g rs) =
      let a : length es + length (outs q) ≡ length (outs (retire e.carrier p)) = leaving_count (once_retire e.carrier p once) rs in
      let b : length (outs (retire e.carrier p)) + 1 ≡ length (outs p) = outs_retire_length e.carrier p once (goer_out g) in
      omega arith

  -- who is out in a last position within never leaves
  pub left_not_leaving : {last p q : Position} {es : List Entry} {c : ℕ} → NoneCanGo t last → Once p → Within last p → Out last c → Retires t p es q → Memᴰ c (leaving es) → ⊥
  left_not_leaving ended once a out done m = Memᴰ.not-nil m
  left_not_leaving {last} {p} {c = c} ended once a out (next {e = e} {es = es} g rs) m =
      go (Memᴰ.cases_cons m) (left_not_leaving ended (once_retire e.carrier p once) (within_retire e.carrier a (goer_numbered g) (goer_not_left ended once a g)) out rs)
    where
      go : (c ≡ e.carrier) ⊎ Memᴰ c (leaving es) → (Memᴰ c (leaving es) → ⊥) → ⊥
      go (inl f) ih = goer_not_left ended once a g (rw f at out)
      go (inr k) ih = ih k

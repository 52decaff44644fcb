-- What document 02 says of a turning loop on a track: it leaves at its point with either heading, and counts twice toward the two zones of
-- its point. The first by the two words of a zone; the second since its two ends stand beside each other in the list of ends.
use Prim.Native.Nat.{ℕ, zero, suc, ◌+◌, ◌*◌, ◌<◌}
use mathlib.Core.Path.{◌≡◌, refl, sym, ◌∙◌, ap, subst}
use mathlib.Core.Logic.{◌⊎◌, inl, inr}
use mathlib.Core.List.{List, [], ◌∷◌}
use mathlib.Core.Bool.{Bool, true, false}
use native.Mathlib.Omega.{arith}
use lib.ListN.{length, get_or, take, drop}
use lib.Dec.{eqb}
use borrow.Author.Tests.{eq-eqb}
use Rattle.model.specs.Lists.{cons_if, keep, how_many}
use Rattle.model.specs.Track.{zone_of, rev, start, leave}
use Rattle.model.specs.Loops.{LoopLeaves, LoopCountsTwice}
use Rattle.model.proofs.ListLaws.{how_many_pass}
use Rattle.model.proofs.WordLaws.{same_zone, zone_first, leave_rev}

pub loop_leaves : LoopLeaves
loop_leaves t w l = go (same_zone w (2 * zone_of w) (sym (zone_first (zone_of w))))
  where
    go : (w ≡ 2 * zone_of w) ⊎ (w ≡ rev (2 * zone_of w)) → leave t w ≡ start t w
    go (inl e) = ap (leave t) e ∙ sym l ∙ sym (ap (start t) e)
    go (inr e) = ap (leave t) e ∙ leave_rev t (2 * zone_of w) ∙ l ∙ sym (ap (start t) e)

-- a number that stands in two places side by side is counted twice there, and besides before and after them
beside_twice : (q : ℕ) (l : List ℕ) (i : ℕ) → suc i < length l → get_or l i 0 ≡ q → get_or l (suc i) 0 ≡ q → how_many (eqb q) l ≡ how_many (eqb q) (take i l) + (2 + how_many (eqb q) (drop (suc (suc i)) l))
beside_twice q [] i h a b = absurd (omega arith)
beside_twice q (x ∷ []) i h a b = absurd (omega arith)
beside_twice q (x ∷ y ∷ l) zero h a b =
    let m : how_many (eqb q) (x ∷ y ∷ l) ≡ suc (how_many (eqb q) (y ∷ l)) = how_many_pass (eqb q) x (y ∷ l) (eq-eqb q x (sym a)) in
    let n : how_many (eqb q) (y ∷ l) ≡ suc (how_many (eqb q) l) = how_many_pass (eqb q) y l (eq-eqb q y (sym b)) in
    omega arith
beside_twice q (x ∷ y ∷ l) (suc i) h a b = go (eqb q x) (beside_twice q (y ∷ l) i (omega arith) a b)
  where
    after : ℕ
    after = how_many (eqb q) (drop (suc (suc i)) (y ∷ l))

    go : (t : Bool) → how_many (eqb q) (y ∷ l) ≡ how_many (eqb q) (take i (y ∷ l)) + (2 + after)
        → length (cons_if t x (keep (eqb q) (y ∷ l))) ≡ length (cons_if t x (keep (eqb q) (take i (y ∷ l)))) + (2 + after)
    go true e = omega arith
    go false e = e

pub loop_twice : LoopCountsTwice
loop_twice t n z h l =
    subst (λ k. how_many here t.ends ≡ how_many here (take (2 * z) t.ends) + (2 + how_many here (drop k t.ends))) next
    (beside_twice (start t (2 * z)) t.ends (2 * z) (omega arith) refl (ap (start t) beside ∙ sym l))
  where
    here : ℕ → Bool
    here = eqb (start t (2 * z))

    beside : suc (2 * z) ≡ rev (2 * z)
    beside = omega arith

    next : suc (suc (2 * z)) ≡ 2 * z + 2
    next = omega arith

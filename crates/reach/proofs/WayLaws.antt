-- Ways made one by one, and what is reached over them.
-- A way more changes one bit of one word; what is reached goes by the steps.
use Prim.Native.Nat.{ℕ, ◌^◌, ◌<◌}
use mathlib.Core.Path.{◌≡◌, refl, sym, ap, ◌∙◌}
use mathlib.Core.List.{List}
use mathlib.Core.Bool.{Bool, true, false, ◌&&◌, ◌||◌, or-false, true≢false}
use mathlib.Core.Logic.{◌⊎◌, inl, inr}
use borrow.Author.Tests.{eqb-true, eqb-false}
use lib.ListN.{length, get_or, set}
use lib.Seq.{get_or-set_same, get_or-set_other}
use lib.Dec.{eqb}
use lib.Bits.{bit_or}
use Rattle.bits.specs.Sets.{has_bit}
use Rattle.bits.proofs.BitLaws.{bit_or_lem, bit_alone, or_right, alone_there}
use Rattle.reach.specs.Ways.{Ways, Reach}
use Rattle.reach.specs.Ways.Reach.{here, on}

-- one way more, from p to q
abbrev pub added : List ℕ → ℕ → ℕ → List ℕ
added ways p q = set ways p (bit_or (get_or ways p 0) (2 ^ q))

-- its bits
pub added_bit : (ways : List ℕ) (p q : ℕ) → p < length ways → (a b : ℕ) → has_bit (get_or (added ways p q) a 0) b ≡ (has_bit (get_or ways a 0) b || (eqb a p && eqb b q))
added_bit ways p q l a b = go (eqb a p) refl
  where
    go : (t : Bool) → eqb a p ≡ t → has_bit (get_or (added ways p q) a 0) b ≡ (has_bit (get_or ways a 0) b || (t && eqb b q))
    go true e =
        ap (λ (x : ℕ). has_bit (get_or (added ways p q) x 0) b) (eqb-true a p e)
        ∙ ap (λ (x : ℕ). has_bit x b) (get_or-set_same ways p (bit_or (get_or ways p 0) (2 ^ q)) 0 l) ∙ bit_or_lem (get_or ways p 0) (2 ^ q) b
        ∙ ap (λ (t : Bool). has_bit (get_or ways p 0) b || t) (bit_alone q b)
        ∙ ap (λ (x : ℕ). has_bit (get_or ways x 0) b || eqb b q) (sym (eqb-true a p e))
    go false e =
        ap (λ (x : ℕ). has_bit x b) (get_or-set_other ways p a (bit_or (get_or ways p 0) (2 ^ q)) 0 (eqb-false a p e))
        ∙ sym (or-false (has_bit (get_or ways a 0) b))

-- a way of the longer table is the new one or an old one
pub added_way : (ways : List ℕ) (p q : ℕ) → p < length ways → (a b : ℕ) → has_bit (get_or (added ways p q) a 0) b ≡ true
    → (has_bit (get_or ways a 0) b ≡ true) ⊎ ((a ≡ p) × (b ≡ q))
added_way ways p q l a b e = go (has_bit (get_or ways a 0) b) refl (eqb a p) refl (eqb b q) refl (sym (added_bit ways p q l a b) ∙ e)
  where
    go : (s : Bool) → has_bit (get_or ways a 0) b ≡ s → (t : Bool) → eqb a p ≡ t → (u : Bool) → eqb b q ≡ u → (s || (t && u)) ≡ true
        → (has_bit (get_or ways a 0) b ≡ true) ⊎ ((a ≡ p) × (b ≡ q))
    go true s t i u k e = inl s
    go false s true i true k e = inr (eqb-true a p i, eqb-true b q k)
    go false s true i false k e = absurd (true≢false (sym e))
    go false s false i u k e = absurd (true≢false (sym e))

pub added_old : (ways : List ℕ) (p q : ℕ) → p < length ways → (a b : ℕ) → has_bit (get_or ways a 0) b ≡ true → has_bit (get_or (added ways p q) a 0) b ≡ true
added_old ways p q l a b e = added_bit ways p q l a b ∙ ap (λ (t : Bool). t || (eqb a p && eqb b q)) e

pub added_new : (ways : List ℕ) (p q : ℕ) → p < length ways → has_bit (get_or (added ways p q) p 0) q ≡ true
added_new ways p q l =
    ap (λ (x : ℕ). has_bit x q) (get_or-set_same ways p (bit_or (get_or ways p 0) (2 ^ q)) 0 l) ∙ or_right (get_or ways p 0) (2 ^ q) q (alone_there q)

-- what is reached is one of the points
pub reach_inside : {ways : List ℕ} {p q : ℕ} → Ways ways → p < length ways → Reach ways p q → q < length ways
reach_inside w l here = l
reach_inside w l (on {q = m} {r = r} k e) = w.inside m r e

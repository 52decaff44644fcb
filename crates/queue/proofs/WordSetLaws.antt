-- What is in a set of words after a word more, and in the set of the free zones' words with the zones below one done.
-- A word more changes one bit of one block; each step is one zone more of those that are done.
use Prim.Native.Nat.{ℕ, ◌+◌, ◌/◌, ◌%◌, ◌^◌, ◌≤◌, ◌<◌}
use mathlib.Core.Path.{◌≡◌, refl, sym, ap, ap₂, ◌∙◌}
use mathlib.Core.List.{List}
use mathlib.Core.Bool.{Bool, true, false, ◌&&◌, ◌||◌, and-true, and-false, or-false}
use native.Mathlib.Omega.{arith}
use borrow.Author.Tests.{eqb-true, eqb-false, eq-eqb, ne_eqb, ltb-true, lt-ltb, le-ltb}
use lib.ListN.{length, get_or, set, replicate}
use lib.Seq.{get_or-set_same, get_or-set_other}
use lib.Dec.{eqb, ltb}
use lib.Bits.{bit_or}
use Rattle.model.specs.Position.{Position, is_free}
use Rattle.model.proofs.BoolLaws.{same_test}
use Rattle.model.proofs.ListLaws.{get_or_zeros}
use Rattle.bits.specs.Sets.{has_bit}
use Rattle.bits.proofs.BitLaws.{bit_with, bit_none}
use Rattle.queue.specs.WordSets.{in_set, Added, ZoneAdded, Fillable}

-- two tests for equal numbers agree where the one equation holds with the other
pub same_eqb : (a b c d : ℕ) → (a ≡ b → c ≡ d) → (c ≡ d → a ≡ b) → eqb a b ≡ eqb c d
same_eqb a b c d f g = same_test (eqb a b) (eqb c d) (λ e. eq-eqb c d (f (eqb-true a b e))) (λ e. eq-eqb a b (g (eqb-true c d e)))

-- a test of the numbers below z + 1 is the test of those below z, or of z
pub next_below : (f : ℕ → Bool) (x z : ℕ) → (ltb x (z + 1) && f x) ≡ ((ltb x z && f x) || (eqb x z && f z))
next_below f x z = go (eqb x z) refl
  where
    go : (t : Bool) → eqb x z ≡ t → (ltb x (z + 1) && f x) ≡ ((ltb x z && f x) || (t && f z))
    go true e =
        let same : x ≡ z = eqb-true x z e in
        ap₂ (λ (a b : Bool). a && b) (lt-ltb x (z + 1) (omega arith)) (ap f same) ∙
        ap (λ (a : Bool). (a && f x) || f z) (sym (le-ltb x z (omega arith)))
    go false e =
        let other : x ≡ z → ⊥ = eqb-false x z e in
        let same : ltb x (z + 1) ≡ ltb x z = same_test (ltb x (z + 1)) (ltb x z) (λ h. let l : x < z + 1 = ltb-true x (z + 1) h in lt-ltb x z (omega arith)) (λ h. let l : x < z = ltb-true x z h in lt-ltb x (z + 1) (omega arith)) in
        ap (λ (a : Bool). a && f x) same ∙ sym (or-false (ltb x z && f x))

-- no word is in blocks of zeros
pub no_words : (n v : ℕ) → in_set (replicate n 0) v ≡ false
no_words n v = ap (λ (b : ℕ). has_bit b (v % 64)) (get_or_zeros n (v / 64)) ∙ bit_none (v % 64)

-- the block of w stored with its bit
pub word_added : (l : List ℕ) (w b : ℕ) → w / 64 < length l → b ≡ bit_or (get_or l (w / 64) 0) (2 ^ (w % 64)) → Added w l (set l (w / 64) b)
word_added l w b h stored = record { has = λ v. go v (eqb (v / 64) (w / 64)) refl }
  where
    go : (v : ℕ) (t : Bool) → eqb (v / 64) (w / 64) ≡ t → in_set (set l (w / 64) b) v ≡ (in_set l v || eqb v w)
    go v true e =
        let same : v / 64 ≡ w / 64 = eqb-true (v / 64) (w / 64) e in
        ap (λ (i : ℕ). has_bit (get_or (set l (w / 64) b) i 0) (v % 64)) same ∙
        ap (λ (x : ℕ). has_bit x (v % 64)) (get_or-set_same l (w / 64) b 0 h ∙ stored) ∙
        bit_with (get_or l (w / 64) 0) (w % 64) (v % 64) ∙
        ap₂ (λ (i : ℕ) (t : Bool). has_bit (get_or l i 0) (v % 64) || t) (sym same) (same_eqb (v % 64) (w % 64) v w (λ q. omega arith) (λ q. omega arith))
    go v false e =
        let other : v / 64 ≡ w / 64 → ⊥ = eqb-false (v / 64) (w / 64) e in
        ap (λ (x : ℕ). has_bit x (v % 64)) (get_or-set_other l (w / 64) (v / 64) b 0 other) ∙
        sym (or-false (in_set l v)) ∙
        ap (λ (t : Bool). in_set l v || t) (sym (ne_eqb v w (λ q. other (ap (λ (x : ℕ). x / 64) q))))

-- the filling, with the zones below z done
pub record FreeBelow (p : Position) (l : List ℕ) (z : ℕ) : Type 0 where
  pub low : z ≤ length p
  pub few : length p ≤ 96
  pub blocks : length l ≡ 3
  pub has : (v : ℕ) → in_set l v ≡ (ltb (v / 2) z && is_free p (v / 2))

pub free_starts : (p : Position) (l : List ℕ) → Fillable p l → FreeBelow p l 0
free_starts p l n = record {
  low = omega arith;
  few = n.few;
  blocks = ap length n.no_word;
  has = λ v. ap (λ (m : List ℕ). in_set m v) n.no_word ∙ no_words 3 v ∙ ap (λ (t : Bool). t && is_free p (v / 2)) (sym (le-ltb (v / 2) 0 (omega arith)));
}

module _ {p : Position} {l : List ℕ} {z : ℕ} (f : FreeBelow p l z) (h : z < length p) where
  -- a free zone's words are put in
  pub free_more : {m : List ℕ} → get_or p z 0 ≡ 0 → length m ≡ length l → ZoneAdded z l m → FreeBelow p m (z + 1)
  free_more {m} free kept a = record {
    low = omega arith;
    few = f.few;
    blocks = kept ∙ f.blocks;
    has = λ v.
        a.has v ∙ ap (λ (t : Bool). t || eqb (v / 2) z) (f.has v) ∙
        ap (λ (t : Bool). (ltb (v / 2) z && is_free p (v / 2)) || t) (sym (and-true (eqb (v / 2) z)) ∙ ap (λ (t : Bool). eqb (v / 2) z && t) (sym (eq-eqb (get_or p z 0) 0 free))) ∙
        sym (next_below (is_free p) (v / 2) z);
  }

  -- a held zone is passed over
  pub free_past : (get_or p z 0 ≡ 0 → ⊥) → FreeBelow p l (z + 1)
  free_past held = record {
    low = omega arith;
    few = f.few;
    blocks = f.blocks;
    has = λ v.
        f.has v ∙ sym (or-false (ltb (v / 2) z && is_free p (v / 2))) ∙
        ap (λ (t : Bool). (ltb (v / 2) z && is_free p (v / 2)) || t) (sym (and-false (eqb (v / 2) z)) ∙ ap (λ (t : Bool). eqb (v / 2) z && t) (sym (ne_eqb (get_or p z 0) 0 held))) ∙
        sym (next_below (is_free p) (v / 2) z);
  }

-- Ways made word by word: none at first, one more for a word that passes the test, the same for any other word; and no way leads out.
-- From the laws of one way more; a word below n + 1 is below n or n itself.
use Prim.Native.Nat.{ℕ, ◌+◌, ◌≤◌, ◌<◌}
use mathlib.Core.Path.{◌≡◌, refl, sym, ap, ap₂, ◌∙◌, subst, subst₂}
use mathlib.Core.List.{List}
use mathlib.Core.Logic.{◌⊎◌, inl, inr, ⊎_elim}
use mathlib.Core.Bool.{Bool, true, false, true≢false}
use native.Mathlib.Nat.{eq-or-lt_of_le}
use native.Mathlib.Omega.{arith}
use lib.ListN.{length, get_or, replicate, length-set}
use Rattle.model.proofs.ListLaws.{get_or_zeros}
use Rattle.bits.specs.Sets.{has_bit}
use Rattle.bits.proofs.BitLaws.{bit_none}
use Rattle.reach.specs.Ways.{Ways, WaysOver}
use Rattle.reach.proofs.WayLaws.{added, added_way, added_old, added_new}

-- what is below n + 1 is below n or n itself
pub last : {n w : ℕ} → w < n + 1 → (w ≡ n) ⊎ (w < n)
last {n} {w} h = let l : w ≤ n = omega arith in eq-or-lt_of_le l

module _ (start leave : ℕ → ℕ) (goes : ℕ → Bool) where
  pub over_none : WaysOver start leave goes 0 (replicate 64 0)
  over_none = record {
    long = refl;
    sound = λ a b e. absurd (true≢false (sym e ∙ ap (λ (x : ℕ). has_bit x b) (get_or_zeros 64 a) ∙ bit_none b));
    whole = λ w h g. absurd (omega arith);
  }

  module _ (n : ℕ) (ways : List ℕ) (o : WaysOver start leave goes n ways) where
    over_more : goes n ≡ true → start n < 64 → WaysOver start leave goes (n + 1) (added ways (start n) (leave n))
    over_more g h = record {
      long = length-set ways (start n) _ ∙ o.long;
      sound = λ a b e. from a b (added_way ways (start n) (leave n) inside a b e);
      whole = λ w l k. to w k (last l);
    }
      where
        inside : start n < length ways
        inside = subst (λ (k : ℕ). start n < k) (sym o.long) h

        from : (a b : ℕ) → (has_bit (get_or ways a 0) b ≡ true) ⊎ ((a ≡ start n) × (b ≡ leave n)) → (w : ℕ) × (w < n + 1) × (goes w ≡ true) × (start w ≡ a) × (leave w ≡ b)
        from a b (inl e) = let r = o.sound a b e in (r.0, omega (arith, r.1), r.2, r.3, r.4)
        from a b (inr q) = (n, omega arith, g, sym q.0, sym q.1)

        to : (w : ℕ) → goes w ≡ true → (w ≡ n) ⊎ (w < n) → has_bit (get_or (added ways (start n) (leave n)) (start w) 0) (leave w) ≡ true
        to w k (inl e) = subst (λ (x : ℕ). has_bit (get_or (added ways (start n) (leave n)) (start x) 0) (leave x) ≡ true) (sym e) (added_new ways (start n) (leave n) inside)
        to w k (inr l) = added_old ways (start n) (leave n) inside (start w) (leave w) (o.whole w l k)

    -- as the code has it: a and b are where the word starts and leaves, and more are the ways after
    pub over_added : goes n ≡ true → start n < 64 → {a b : ℕ} → a ≡ start n → b ≡ leave n → {more : List ℕ} → more ≡ added ways a b → WaysOver start leave goes (n + 1) more
    over_added g h e f k = subst (WaysOver start leave goes (n + 1)) (sym (k ∙ ap₂ (added ways) e f)) (over_more g h)

    pub over_skip : goes n ≡ false → WaysOver start leave goes (n + 1) ways
    over_skip g = record {
      long = o.long;
      sound = λ a b e. let r = o.sound a b e in (r.0, omega (arith, r.1), r.2, r.3, r.4);
      whole = λ w l k. ⊎_elim (λ e. absurd (true≢false (sym k ∙ ap goes e ∙ g))) (λ h. o.whole w h k) (last l);
    }

    -- where every word leaves at a point, no way leads out
    pub over_ways : ((w : ℕ) → w < n → leave w < 64) → Ways ways
    over_ways inside = record {
      few = omega (arith, o.long);
      inside = λ q r e. let w = o.sound q r e in omega (arith, o.long, w.4, inside w.0 w.1);
    }

-- the same words by other names
pub over_same : {start leave start' leave' : ℕ → ℕ} {goes : ℕ → Bool} {n : ℕ} {ways : List ℕ} → ((w : ℕ) → w < n → start w ≡ start' w) → ((w : ℕ) → w < n → leave w ≡ leave' w) → WaysOver start leave goes n ways → WaysOver start' leave' goes n ways
over_same {ways = ways} s l o = record {
  long = o.long;
  sound = λ a b e. let r = o.sound a b e in (r.0, r.1, r.2, sym (s r.0 r.1) ∙ r.3, sym (l r.0 r.1) ∙ r.4);
  whole = λ w h g. subst₂ (λ (x y : ℕ). has_bit (get_or ways x 0) y ≡ true) (s w h) (l w h) (o.whole w h g);
}

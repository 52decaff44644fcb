-- What holds while a set grows: the points found are reached; those grown from are the ones before and some found; where a way leads from a
-- found point that is grown from is found; and there are as many steps more as points more. At the start, after each step and at the end.
-- None of what is reached was grown from before, so a found point that is grown from was taken in this growing.
use Prim.Native.Nat.{ℕ, ◌+◌, ◌-◌, ◌^◌, ◌<◌}
use mathlib.Core.Path.{◌≡◌, refl, sym, ap, ◌∙◌, subst}
use mathlib.Core.List.{List}
use mathlib.Core.Logic.{◌⊎◌, inl, inr, ⊎_elim}
use mathlib.Core.Bool.{true, false, true≢false}
use native.Mathlib.Omega.{arith}
use lib.ListN.{get_or}
use lib.Bits.{bit_or, or_lt}
use lib.Count.{ones, ones-le}
use Rattle.model.proofs.BoolLaws.{same_test, not_true_false}
use Rattle.bits.specs.Sets.{has_bit, set_minus, Lowest}
use Rattle.bits.proofs.BitLaws.{in_or, or_left, or_right, minus_in, minus_not_in, minus_none, same_bits, alone_there, alone_only, alone_word}
use Rattle.bits.proofs.SizeLaws.{size_apart, size_more, size_count}
use Rattle.reach.specs.Ways.{Reach, Grown}
use Rattle.reach.specs.Ways.Reach.{here, on}
use Rattle.reach.specs.Once.{Untouched, GrownOnce}
use Rattle.reach.specs.declared.growing.GrownFrom.{GrownFrom}

pub record Growing (ways : List ℕ) (from : ℕ) (before after : GrownFrom) (found fresh : ℕ) : Type 0 where
  pub found_word : found < 2 ^ 64
  pub set_word : after.set < 2 ^ 64
  pub fresh_is : fresh ≡ set_minus found after.set
  pub start : has_bit found from ≡ true
  pub sound : (q : ℕ) → has_bit found q ≡ true → Reach ways from q
  pub kept : (q : ℕ) → has_bit before.set q ≡ true → has_bit after.set q ≡ true
  pub within : (q : ℕ) → has_bit after.set q ≡ true → (has_bit before.set q ≡ true) ⊎ (has_bit found q ≡ true)
  pub grown : (q r : ℕ) → has_bit found q ≡ true → has_bit after.set q ≡ true → has_bit (get_or ways q 0) r ≡ true → has_bit found r ≡ true
  pub count : after.steps + ones before.set ≡ before.steps + ones after.set

-- at the start one point is found, and it is not grown from
pub begins : {ways : List ℕ} {from : ℕ} {before : GrownFrom} → from < 64 → before.set < 2 ^ 64 → Untouched ways from before
    → Growing ways from before before (2 ^ from) (set_minus (2 ^ from) before.set)
begins {ways} {from} {before} l word untouched = record {
  found_word = alone_word from l;
  set_word = word;
  fresh_is = refl;
  start = alone_there from;
  sound = sound;
  kept = λ q e. e;
  within = λ q e. inl e;
  grown = λ q r e k w. absurd (true≢false (sym k ∙ untouched q (sound q e)));
  count = refl;
}
  where
    sound : (q : ℕ) → has_bit (2 ^ from) q ≡ true → Reach ways from q
    sound q e = subst (Reach ways from) (sym (alone_only from q e)) here

-- what is grown where nothing of it was grown from adds its size
pub size_grown : {ways : List ℕ} {from part : ℕ} (before : GrownFrom) → Untouched ways from before → Grown ways from part → before.set < 2 ^ 64
    → ones (bit_or before.set part) ≡ ones before.set + ones part
size_grown {part = part} before untouched g word =
    size_apart before.set part word g.word (λ q e. not_true_false (has_bit part q) (λ f. true≢false (sym e ∙ untouched q (g.sound q f))))

module _ {ways : List ℕ} {from found fresh : ℕ} {before after : GrownFrom} (g : Growing ways from before after found fresh) where
  -- a step from p, which is fresh
  module _ {p : ℕ} (low : Lowest fresh p) where
    p_left : has_bit (set_minus found after.set) p ≡ true
    p_left = ap (λ (x : ℕ). has_bit x p) (sym g.fresh_is) ∙ low.there

    pub step_found : has_bit found p ≡ true
    step_found = minus_in found after.set p g.found_word g.set_word p_left

    -- what the step asks: p is not grown from yet
    pub step_new : has_bit after.set p ≡ false
    step_new = minus_not_in found after.set p g.found_word g.set_word p_left

    added_size : ones (bit_or after.set (2 ^ p)) ≡ ones after.set + 1
    added_size = size_more after.set p g.set_word low.inside step_new

    added_word : bit_or after.set (2 ^ p) < 2 ^ 64
    added_word = or_lt 64 after.set (2 ^ p) g.set_word (alone_word p low.inside)

    -- and there is room for it in the count
    pub step_room : before.steps + 64 < 2 ^ 64 → after.steps + 1 < 2 ^ 64
    step_room r = omega (arith, g.count, added_size, ones-le 64 (bit_or after.set (2 ^ p)) added_word)

    module _ (next : GrownFrom) (set : next.set ≡ bit_or after.set (2 ^ p)) where
      next_word : next.set < 2 ^ 64
      next_word = subst (λ (x : ℕ). x < 2 ^ 64) (sym set) added_word

      -- fewer points are not grown from
      pub fewer : 64 - ones next.set < 64 - ones after.set
      fewer = omega (arith, ap ones set, added_size, ones-le 64 next.set next_word)

      in_next : (q : ℕ) → has_bit next.set q ≡ true → (has_bit after.set q ≡ true) ⊎ (q ≡ p)
      in_next q e = ⊎_elim inl (λ k. inr (alone_only p q k)) (in_or after.set (2 ^ p) q (ap (λ (x : ℕ). has_bit x q) (sym set) ∙ e))

      module _ (untouched : Untouched ways from before) (h : get_or ways p 0 < 2 ^ 64) (steps : next.steps ≡ after.steps + 1) where
        abbrev more : ℕ
        more = bit_or found (get_or ways p 0)

        more_sound : (q : ℕ) → has_bit more q ≡ true → Reach ways from q
        more_sound q e = ⊎_elim (g.sound q) (on (g.sound p step_found)) (in_or found (get_or ways p 0) q e)

        -- a found point that is grown from is p, or it was found and grown from by an earlier step
        next_grown : (q r : ℕ) → has_bit more q ≡ true → has_bit next.set q ≡ true → has_bit (get_or ways q 0) r ≡ true → has_bit more r ≡ true
        next_grown q r e k w =
            ⊎_elim
            (λ a. ⊎_elim (λ b. absurd (true≢false (sym b ∙ untouched q (more_sound q e)))) (λ f. or_left found (get_or ways p 0) r (g.grown q r f a w)) (g.within q a))
            (λ u. or_right found (get_or ways p 0) r (ap (λ (x : ℕ). has_bit (get_or ways x 0) r) (sym u) ∙ w))
            (in_next q k)

        pub turns : Growing ways from before next more (set_minus more next.set)
        turns = record {
          found_word = or_lt 64 found (get_or ways p 0) g.found_word h;
          set_word = next_word;
          fresh_is = refl;
          start = or_left found (get_or ways p 0) from g.start;
          sound = more_sound;
          kept = λ q e. ap (λ (x : ℕ). has_bit x q) set ∙ or_left after.set (2 ^ p) q (g.kept q e);
          within = λ q e.
              ⊎_elim (λ a. ⊎_elim inl (λ f. inr (or_left found (get_or ways p 0) q f)) (g.within q a))
              (λ u. inr (or_left found (get_or ways p 0) q (ap (has_bit found) u ∙ step_found))) (in_next q e);
          grown = next_grown;
          count = omega (arith, g.count, steps, ap ones set, added_size);
        }

  -- where nothing is fresh, all that is reached is found and grown from
  module _ (none : fresh ≡ 0) where
    covered : (q : ℕ) → has_bit found q ≡ true → has_bit after.set q ≡ true
    covered q = minus_none found after.set q g.found_word g.set_word (sym g.fresh_is ∙ none)

    reached : (q : ℕ) → Reach ways from q → has_bit found q ≡ true
    reached q here = g.start
    reached q (on {q = m} k w) = g.grown m q (reached m k) (covered m (reached m k)) w

    all_found : Grown ways from found
    all_found = record { word = g.found_word; sound = g.sound; whole = reached }

    set_all : before.set < 2 ^ 64 → after.set ≡ bit_or before.set found
    set_all word =
        same_bits 64 after.set (bit_or before.set found) g.set_word (or_lt 64 before.set found word g.found_word)
        (λ q l.
        same_test (has_bit after.set q) (has_bit (bit_or before.set found) q)
        (λ e. ⊎_elim (or_left before.set found q) (or_right before.set found q) (g.within q e))
        (λ e. ⊎_elim (g.kept q) (covered q) (in_or before.set found q e)))

    pub ends : Untouched ways from before → before.set < 2 ^ 64 → GrownOnce ways from before (record { found = found; after = after })
    ends untouched word = record {
      all = all_found;
      set = set_all word;
      steps = omega (arith, g.count, ap ones (set_all word), size_grown before untouched all_found word, size_count 64 found g.found_word);
    }

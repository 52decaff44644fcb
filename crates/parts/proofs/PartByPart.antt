-- The free parts taken one by one: what holds at first, after each part and at the end.
-- What is grown from is made of whole parts, so nothing that is reached from another point is in it; of its points, those of parts with a
-- loop are marked; and there were as many steps as points. Each part brings a point that was not grown from, so each turn leaves fewer.
use Prim.Native.Nat.{ℕ, ◌+◌, ◌-◌, ◌*◌, ◌^◌, ◌≤◌, ◌<◌}
use mathlib.Core.Path.{◌≡◌, refl, sym, ap, ◌∙◌, subst}
use mathlib.Core.List.{List}
use mathlib.Core.Logic.{◌⊎◌, ⊎_elim}
use mathlib.Core.Bool.{Bool, true, false, ◌&&◌, ◌||◌, or-false, and-false, and-true, true≢false}
use native.Mathlib.Nat.{lt_of_lt_of_le}
use native.Mathlib.Omega.{arith}
use borrow.Author.Tests.{le-leb, lt-leb, ltb-true, lt-ltb}
use lib.Dec.{leb, ltb}
use lib.Bits.{bit_or, or_lt}
use lib.Count.{ones, ones-le}
use lib.Pow.{pow_pos, pow_mono, ones_lt}
use Rattle.model.specs.Lists.{numbers_below, how_many}
use Rattle.model.specs.Track.{Track, start}
use Rattle.model.specs.Position.{Position, is_free}
use Rattle.model.specs.Labels.{label}
use Rattle.model.proofs.BoolLaws.{same_test, not_true_false, or_left, or_right, or_cases}
use Rattle.rules.specs.Collapse.{free_parts, loop_in}
use Rattle.bits.specs.Sets.{has_bit, set_minus, Lowest}
use Rattle.bits.proofs.BitLaws.{bit_none, bit_or_lem, bit_all, minus_in, minus_not_in, minus_none, bit_below, word_of_bits}
use Rattle.bits.proofs.SizeLaws.{none_set, size_count, size_fewer}
use Rattle.bits.proofs.FullLaws.{all_full}
use Rattle.reach.specs.Ways.{Reach}
use Rattle.reach.specs.Ways.Reach.{here as there}
use Rattle.reach.specs.Once.{Untouched, GrownOnce}
use Rattle.reach.specs.declared.growing.GrownFrom.{GrownFrom}
use Rattle.reach.specs.declared.Growth.{Growth}
use Rattle.reach.proofs.GrowLaws.{size_grown}
use Rattle.parts.specs.Ways.{EndsAmong, goes_on, WaysOn, Looped, EachOnce}
use Rattle.parts.proofs.FreeParts.{part_alike, part_loop, part_inside, part_whole}

merged : (l a b q : Bool) → (q ≡ true → l ≡ b) → ((l && a) || (b && q)) ≡ (l && (a || q))
merged true true b q f = refl
merged true false true q f = refl
merged true false false true f = sym (f refl)
merged true false false false f = refl
merged false a true true f = sym (f refl)
merged false a true false f = refl
merged false a false q f = refl

-- the free part of a point holds a loop
abbrev loop_at : Track → Position → ℕ → Bool
loop_at t p q = let ls = free_parts t p in loop_in t p ls (label ls q)

-- the points of a track
abbrev all_points : Track → ℕ
all_points t = 2 ^ t.points - 1

all_word : (t : Track) → t.points ≤ 64 → all_points t < 2 ^ 64
all_word t few = lt_of_lt_of_le (ones_lt t.points) (pow_mono few)

-- what holds while parts are grown
pub record Looping (t : Track) (p : Position) (ways : List ℕ) (looped rest : ℕ) (after : GrownFrom) : Type 0 where
  pub looped_word : looped < 2 ^ 64
  pub set_word : after.set < 2 ^ 64
  pub rest_is : rest ≡ set_minus (all_points t) after.set
  pub grown_in : (q : ℕ) → has_bit after.set q ≡ true → q < t.points
  pub whole : (a b : ℕ) → Reach ways a b → has_bit after.set b ≡ true → has_bit after.set a ≡ true
  pub count : after.steps ≡ ones after.set
  pub exact : (q : ℕ) → q < t.points → has_bit looped q ≡ (loop_at t p q && has_bit after.set q)

module _ {t : Track} {p : Position} {ways : List ℕ} where
  -- nothing is grown from yet
  pub looping_none : {after : GrownFrom} → after.set ≡ 0 → after.steps ≡ 0 → Looping t p ways 0 (set_minus (all_points t) after.set) after
  looping_none {after} set steps = record {
    looped_word = pow_pos 64;
    set_word = subst (λ (x : ℕ). x < 2 ^ 64) (sym set) (pow_pos 64);
    rest_is = refl;
    grown_in = λ q e. absurd (true≢false (sym e ∙ none q));
    whole = λ a b k e. absurd (true≢false (sym e ∙ none b));
    count = steps ∙ sym (ap ones set ∙ none_set);
    exact = λ q h. bit_none q ∙ sym (ap (λ (b : Bool). loop_at t p q && b) (none q) ∙ and-false (loop_at t p q));
  }
    where
      none : (q : ℕ) → has_bit after.set q ≡ false
      none q = ap (λ (x : ℕ). has_bit x q) set ∙ bit_none q

  module _ (few : t.points ≤ 64) {looped rest : ℕ} {after : GrownFrom} (g : Looping t p ways looped rest after) where
    -- every point is grown from
    module _ (done : rest ≡ 0) where
      each : (q : ℕ) → q < t.points → has_bit after.set q ≡ true
      each q h = minus_none (all_points t) after.set q (all_word t few) g.set_word (sym g.rest_is ∙ done) (bit_all t.points q h)

      pub looping_all : Looped t p looped
      looping_all = record {
        word = g.looped_word;
        exact = λ q h. g.exact q h ∙ ap (λ (b : Bool). loop_at t p q && b) (each q h) ∙ and-true (loop_at t p q);
      }

      small : after.set < 2 ^ t.points
      small =
          word_of_bits 64 t.points after.set g.set_word
          (λ q l. not_true_false (has_bit after.set q) (λ e. let i : q < t.points = g.grown_in q e in absurd (omega arith)))

      pub looping_once : EachOnce t.points after
      looping_once = record {
        exactly = λ q. same_test (has_bit after.set q) (ltb q t.points) (λ e. lt-ltb q t.points (g.grown_in q e)) (λ e. each q (ltb-true q t.points e));
        steps = g.count ∙ all_full t.points after.set small each;
      }

    -- the part of q, the lowest point not grown from
    module _ {q : ℕ} (low : Lowest rest q) where
      left : has_bit (set_minus (all_points t) after.set) q ≡ true
      left = ap (λ (x : ℕ). has_bit x q) (sym g.rest_is) ∙ low.there

      q_in : q < t.points
      q_in = bit_below t.points (all_points t) q (ones_lt t.points) (minus_in (all_points t) after.set q (all_word t few) g.set_word left)

      -- nothing that is reached from q is grown from: else q would be too
      pub looping_untouched : Untouched ways q after
      looping_untouched r k =
          not_true_false (has_bit after.set r)
          (λ e. true≢false (sym (g.whole q r k e) ∙ minus_not_in (all_points t) after.set q (all_word t few) g.set_word left))

      module _ {growth : Growth} (grown : GrownOnce ways q after growth) where
        joined_size : ones (bit_or after.set growth.found) ≡ ones after.set + ones growth.found
        joined_size = size_grown after looping_untouched grown.all g.set_word

        next_word : growth.after.set < 2 ^ 64
        next_word = subst (λ (x : ℕ). x < 2 ^ 64) (sym grown.set) (or_lt 64 after.set growth.found g.set_word grown.all.word)

        next_bit : (r : ℕ) → has_bit growth.after.set r ≡ (has_bit after.set r || has_bit growth.found r)
        next_bit r = ap (λ (x : ℕ). has_bit x r) grown.set ∙ bit_or_lem after.set growth.found r

        -- more points are grown from
        pub looping_fewer : 64 - ones growth.after.set < 64 - ones after.set
        looping_fewer =
            omega (
              arith,
              ap ones grown.set,
              joined_size,
              size_fewer growth.found q grown.all.word (grown.all.whole q there),
              ones-le 64 growth.after.set next_word,
            )

        module _ (among : EndsAmong t.points t.zones t.ends p) (o : WaysOn t.ends (goes_on t.ends p false 0) (2 * t.zones) ways) where
          -- how many free zones start in the part
          abbrev starting : ℕ
          starting = how_many (λ z. is_free p z && has_bit growth.found (start t (2 * z))) (numbers_below t.zones)

          -- the part is grown from, and marked where it holds a loop
          looping_turn : (marked : ℕ) (b : Bool) → marked < 2 ^ 64 → ((r : ℕ) → has_bit marked r ≡ (has_bit looped r || (b && has_bit growth.found r)))
              → leb (how_many (has_bit growth.found) (numbers_below 64)) starting ≡ b → Looping t p ways marked (set_minus (all_points t) growth.after.set) growth.after
          looping_turn marked b word bits test = record {
            looped_word = word;
            set_word = next_word;
            rest_is = refl;
            grown_in = λ r e. ⊎_elim (g.grown_in r) (part_inside t among o q_in grown.all r) (in_next r e);
            whole = λ a r k e.
                next_bit a
                ∙ ⊎_elim (λ l. or_left (has_bit after.set a) (has_bit growth.found a) (g.whole a r k l))
                (λ l. or_right (has_bit after.set a) (has_bit growth.found a) (part_whole t among o grown.all a r k l)) (in_next r e);
            count = omega (arith, grown.steps, g.count, ap ones grown.set, joined_size, size_count 64 growth.found grown.all.word);
            exact = λ r h.
                bits r ∙ ap (λ (x : Bool). x || (b && has_bit growth.found r)) (g.exact r h)
                ∙ merged (loop_at t p r) (has_bit after.set r) b (has_bit growth.found r)
                (λ e. part_alike t among o q_in grown.all r h e ∙ sym (part_loop t among o q_in grown.all) ∙ test)
                ∙ ap (λ (x : Bool). loop_at t p r && x) (sym (next_bit r));
          }
            where
              in_next : (r : ℕ) → has_bit growth.after.set r ≡ true → (has_bit after.set r ≡ true) ⊎ (has_bit growth.found r ≡ true)
              in_next r e = or_cases (has_bit after.set r) (has_bit growth.found r) (sym (next_bit r) ∙ e)

          pub looping_marks : how_many (has_bit growth.found) (numbers_below 64) ≤ starting → Looping t p ways (bit_or looped growth.found) (set_minus (all_points t) growth.after.set) growth.after
          looping_marks h = looping_turn (bit_or looped growth.found) true (or_lt 64 looped growth.found g.looped_word grown.all.word) (bit_or_lem looped growth.found) (le-leb _ _ h)

          pub looping_passes : starting < how_many (has_bit growth.found) (numbers_below 64) → Looping t p ways looped (set_minus (all_points t) growth.after.set) growth.after
          looping_passes h = looping_turn looped false g.looped_word (λ r. sym (or-false (has_bit looped r))) (lt-leb _ _ h)

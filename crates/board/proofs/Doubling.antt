-- Row 8: the sets of the points where one word or more, and where two or more, start, word by word; and the points of the row as one set.
-- A word adds its point to the first set, and to the second where it was in the first already.
use Prim.Native.Nat.{ℕ, ◌+◌, ◌-◌, ◌*◌, ◌^◌, ◌≤◌, ◌<◌}
use native.Mathlib.Omega.{arith}
use native.Mathlib.Nat.{add-zero, lt_of_lt_of_le}
use mathlib.Core.List.{List, [], ◌∷◌, map}
use mathlib.Core.Path.{◌≡◌, refl, sym, ◌∙◌, ap, ap₂, subst, subst₂}
use mathlib.Core.Bool.{Bool, true, false, not, ◌&&◌, ◌||◌}
use lib.ListN.{length}
use lib.Bits.{bit_or, bit_and, or_lt}
use lib.Pow.{ones_lt, pow_mono}
use lib.Dec.{leb, ltb, eqb}
use Rattle.std.proofs.lemmas.Bool.Decides.{nat_tests}
use Rattle.model.specs.Lists.{numbers_below, cons_if, how_many, any_of}
use Rattle.model.specs.Reading.{under_two, track_said, zones_said, home_said, points_said, end_said}
use Rattle.model.proofs.ListLaws.{how_many_append, below_any, below_any_false}
use Rattle.bits.specs.Sets.{has_bit, set_minus, Lowest}
use Rattle.bits.proofs.BitLaws.{bit_none, bit_all, bit_or_lem, bit_and_lem, bit_alone, bit_with, bit_minus, alone_word, minus_word, minus_in, bit_below}
use Rattle.bits.proofs.LowestLaws.{trailing_lowest}
use Rattle.board.specs.declared.input.Zone.{Zone}
use Rattle.board.specs.Inner.{ByteAt, ZoneAt, starts_at, Inside, Doubled}
use Rattle.board.proofs.Filling.{map_next, first_end, second_end}

-- the points where one and where two of the first w words, or more, start
pub record StartsTwice (b : List ℕ) (once twice w : ℕ) : Type 0 where
  pub one : (p : ℕ) → p < 64 → has_bit once p ≡ leb 1 (starts_at b w p)
  pub two : (p : ℕ) → p < 64 → has_bit twice p ≡ leb 2 (starts_at b w p)

pub starts_first : (b : List ℕ) → StartsTwice b 0 0 0
starts_first b = record { one = λ p l. bit_none p; two = λ p l. bit_none p }

starts_more : (b : List ℕ) (w p : ℕ) → starts_at b (w + 1) p ≡ starts_at b w p + length (cons_if (eqb p (end_said b w)) (end_said b w) [])
starts_more b w p = ap (how_many (eqb p)) (map_next (end_said b) w) ∙ how_many_append (eqb p) (map (end_said b) (numbers_below w)) (end_said b w ∷ [])

-- a test of the count by that of one word more, or of none
or_one : (n : ℕ) → (leb 1 n || true) ≡ leb 1 (n + 1)
or_one n = grind (arith, nat_tests)

or_two : (n : ℕ) → (leb 2 n || (leb 1 n && true)) ≡ leb 2 (n + 1)
or_two n = grind (arith, nat_tests)

or_none : (s t : Bool) → (s || (t && false)) ≡ s
or_none s t = grind arith

fewer : (m n : ℕ) → ltb m n ≡ not (leb n m)
fewer m n = grind (arith, nat_tests)

pub starts_next : {b : List ℕ} {once twice w p : ℕ} → StartsTwice b once twice w → p ≡ end_said b w → StartsTwice b (bit_or once (2 ^ p)) (bit_or twice (bit_and once (2 ^ p))) (w + 1)
starts_next {b} {once} {twice} {w} {p} S e = record { one = λ q l. first q l (eqb q p) refl; two = λ q l. second q l (eqb q p) refl }
  where
    counted : (q : ℕ) (t : Bool) → eqb q p ≡ t → starts_at b (w + 1) q ≡ starts_at b w q + length (cons_if t (end_said b w) [])
    counted q t h = starts_more b w q ∙ ap (λ (t : Bool). starts_at b w q + length (cons_if t (end_said b w) [])) (ap (eqb q) (sym e) ∙ h)

    first : (q : ℕ) → q < 64 → (t : Bool) → eqb q p ≡ t → has_bit (bit_or once (2 ^ p)) q ≡ leb 1 (starts_at b (w + 1) q)
    first q l true h = bit_with once p q ∙ ap₂ (λ (s t : Bool). s || t) (S.one q l) h ∙ or_one (starts_at b w q) ∙ ap (leb 1) (sym (counted q true h))
    first q l false h =
        bit_with once p q ∙ ap₂ (λ (s t : Bool). s || (true && t)) (S.one q l) h ∙ or_none (leb 1 (starts_at b w q)) true ∙
        ap (leb 1) (sym (counted q false h ∙ add-zero (starts_at b w q)))

    split : (q : ℕ) → has_bit (bit_or twice (bit_and once (2 ^ p))) q ≡ (has_bit twice q || (has_bit once q && eqb q p))
    split q = bit_or_lem twice (bit_and once (2 ^ p)) q ∙ ap (λ (t : Bool). has_bit twice q || t) (bit_and_lem once (2 ^ p) q ∙ ap (λ (t : Bool). has_bit once q && t) (bit_alone p q))

    both : (q : ℕ) → q < 64 → (t : Bool) → eqb q p ≡ t → has_bit (bit_or twice (bit_and once (2 ^ p))) q ≡ (leb 2 (starts_at b w q) || (leb 1 (starts_at b w q) && t))
    both q l t h = split q ∙ ap₂ (λ (x y : Bool). x || (y && eqb q p)) (S.two q l) (S.one q l) ∙ ap (λ (t : Bool). leb 2 (starts_at b w q) || (leb 1 (starts_at b w q) && t)) h

    second : (q : ℕ) → q < 64 → (t : Bool) → eqb q p ≡ t → has_bit (bit_or twice (bit_and once (2 ^ p))) q ≡ leb 2 (starts_at b (w + 1) q)
    second q l true h = both q l true h ∙ or_two (starts_at b w q) ∙ ap (leb 2) (sym (counted q true h))
    second q l false h = both q l false h ∙ or_none (leb 2 (starts_at b w q)) (leb 1 (starts_at b w q)) ∙ ap (leb 2) (sym (counted q false h ∙ add-zero (starts_at b w q)))

-- a turn of the loop: both words of a zone; and its end
pub starts_zone : {b : List ℕ} {once twice once₁ twice₁ once₂ twice₂ z : ℕ} {r : Zone} → StartsTwice b once twice (2 * z) → ZoneAt b z r
    → once₁ ≡ bit_or once (2 ^ r.a) → twice₁ ≡ bit_or twice (bit_and once (2 ^ r.a))
    → once₂ ≡ bit_or once₁ (2 ^ r.b) → twice₂ ≡ bit_or twice₁ (bit_and once₁ (2 ^ r.b)) → StartsTwice b once₂ twice₂ (2 * (z + 1))
starts_zone {b} {once₂ = once₂} {twice₂ = twice₂} {z} S Z e f g h =
    subst (StartsTwice b once₂ twice₂) (let n : 2 * z + 1 + 1 ≡ 2 * (z + 1) = omega arith in n)
    (subst₂ (λ (x y : ℕ). StartsTwice b x y (2 * z + 1 + 1)) (sym g) (sym h)
    (starts_next (subst₂ (λ (x y : ℕ). StartsTwice b x y (2 * z + 1)) (sym e) (sym f) (starts_next S (first_end Z))) (second_end Z)))

pub some_points : {b : List ℕ} {p : ℕ} → Inside b → ByteAt b 3 p → (0 < p) × (p ≤ 64)
some_points {b} {p} I P =
    let e : p ≡ points_said b = P.is in
    let m : points_said b ≤ 64 = I.points_most in
    let i : home_said b < points_said b = I.home_in in
    (omega arith, omega arith)

pub home_small : {b : List ℕ} {h : ℕ} → Inside b → ByteAt b 4 h → h < 64
home_small {b} {h} I H =
    let e : h ≡ home_said b = H.is in
    let m : points_said b ≤ 64 = I.points_most in
    let i : home_said b < points_said b = I.home_in in
    omega arith

-- the points of row 8: all but home and those where two words or more start
module _ {b : List ℕ} {p h twice : ℕ} (I : Inside b) (D : Doubled b twice) (fits : twice < 2 ^ 64) (P : ByteAt b 3 p) (H : ByteAt b 4 h) where
  abbrev under_two_set : ℕ
  under_two_set = set_minus (2 ^ p - 1) (bit_or twice (2 ^ h))

  all_word : 2 ^ p - 1 < 2 ^ 64
  all_word = lt_of_lt_of_le (ones_lt p) (pow_mono (some_points I P).1)

  rest_word : bit_or twice (2 ^ h) < 2 ^ 64
  rest_word = or_lt 64 twice (2 ^ h) fits (alone_word h (home_small I H))

  under_two_bit : (q : ℕ) → q < p → under_two b q ≡ has_bit under_two_set q
  unfolding under_two track_said
  under_two_bit q l =
      ap₂ (λ (x : ℕ) (t : Bool). not (eqb q x) && t) (sym H.is) (fewer (starts_at b (2 * zones_said b) q) 2 ∙ ap not (sym (D.holds q (let m : p ≤ 64 = (some_points I P).1 in omega arith)))) ∙
      flip (has_bit twice q) (eqb q h) ∙
      sym (bit_minus (2 ^ p - 1) (bit_or twice (2 ^ h)) q all_word rest_word ∙ ap₂ (λ (s t : Bool). s && not t) (bit_all p q l) (bit_with twice h q))
    where
      flip : (s t : Bool) → (not t && not s) ≡ (true && not (s || t))
      flip s t = grind arith

  none_under_two : under_two_set ≡ 0 → any_of (under_two b) (numbers_below (points_said b)) ≡ false
  none_under_two e = below_any_false (under_two b) (points_said b) (λ q l. under_two_bit q (let s : p ≡ points_said b = P.is in let k : q < p = omega arith in k) ∙ ap (λ (s : ℕ). has_bit s q) e ∙ bit_none q)

  some_under_two : (under_two_set ≡ 0 → ⊥) → any_of (under_two b) (numbers_below (points_said b)) ≡ true
  some_under_two n = at _ (trailing_lowest under_two_set (let k : 0 < under_two_set = omega arith in k) (minus_word (2 ^ p - 1) (bit_or twice (2 ^ h)) all_word))
    where
      at : (q : ℕ) → Lowest under_two_set q → any_of (under_two b) (numbers_below (points_said b)) ≡ true
      at q low =
          let l : q < p = bit_below p (2 ^ p - 1) q (ones_lt p) (minus_in (2 ^ p - 1) (bit_or twice (2 ^ h)) q all_word rest_word low.there) in
          below_any (under_two b) (points_said b) q (let s : p ≡ points_said b = P.is in let k : q < points_said b = omega arith in k) (under_two_bit q l ∙ low.there)

  -- the code's set is that one
  module _ {a r s : ℕ} (A : a ≡ 2 ^ p - 1) (R : r ≡ bit_or twice (2 ^ h)) (S : s ≡ set_minus a r) where
    same : s ≡ under_two_set
    same = S ∙ ap₂ set_minus A R

    pub under_two_none : s ≡ 0 → any_of (under_two b) (numbers_below (points_said b)) ≡ false
    under_two_none e = none_under_two (sym same ∙ e)

    pub under_two_some : (s ≡ 0 → ⊥) → any_of (under_two b) (numbers_below (points_said b)) ≡ true
    under_two_some n = some_under_two (λ e. n (same ∙ e))

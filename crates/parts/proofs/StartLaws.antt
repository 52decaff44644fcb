-- The counts of free zones by the point at their end A: made zone by zone, and summed over the points of a part, lowest point first.
-- A free zone is counted at one point, so the sum over the points below n counts the free zones that start at one of them.
use Prim.Native.Nat.{ℕ, zero, suc, ◌+◌, ◌*◌, ◌^◌, ◌≤◌, ◌<◌}
use mathlib.Core.Path.{◌≡◌, refl, sym, ap, ap₂, ◌∙◌}
use mathlib.Core.List.{List, [], ◌∷◌, Memᴰ}
use mathlib.Core.Bool.{Bool, true, false, ◌&&◌, ◌||◌, and-true, and-false, true≢false}
use native.Mathlib.Numerals.{add-one}
use native.Mathlib.Omega.{arith}
use borrow.Author.Tests.{eqb-true, eqb-false, ltb-true, ltb-false, lt-ltb, le-ltb, ne_eqb}
use lib.ListN.{get_or, set, replicate, length-set, length-replicate}
use lib.Seq.{get_or-set_same, get_or-set_other}
use lib.Dec.{eqb, ltb}
use lib.Count.{ones}
use Rattle.std.specs.List.{sum_by}
use Rattle.std.proofs.lemmas.List.Sums.{sum_by-cons, sum_by-append}
use Rattle.model.specs.Lists.{numbers_below, cons_if, keep, how_many}
use Rattle.model.specs.Position.{Position, is_free}
use Rattle.model.proofs.ListLaws.{below_suc, mem_below, mem_keep, keep_append, keep_none, keep_lowest, how_many_ext, how_many_none, get_or_zeros}
use Rattle.model.proofs.CountLaws.{how_many_below, how_many_below_ext, how_many_below_pass, how_many_below_skip, how_many_either}
use Rattle.bits.specs.Sets.{has_bit, set_minus, Lowest}
use Rattle.bits.proofs.BitLaws.{bit_none, minus_gone, minus_word, alone_there, alone_word}
use Rattle.bits.proofs.SizeLaws.{size_fewer}
use Rattle.bits.proofs.LowestLaws.{others_stay}
use Rattle.parts.specs.Ways.{EndsAmong, StartCounts, count_in}

-- the counts, one zone more at a time

-- a zone is free and has its end A at point q
abbrev starts : List ℕ → Position → ℕ → ℕ → Bool
starts ends p q z = is_free p z && eqb (get_or ends (2 * z) 0) q

pub starts_none : (ends : List ℕ) (p : Position) → StartCounts 0 ends p (replicate 64 0)
starts_none ends p = record {
  long = length-replicate {A = ℕ} 64 0;
  each = λ q h. get_or_zeros 64 q;
}

module _ {z : ℕ} {ends : List ℕ} {p : Position} {counts : List ℕ} (s : StartCounts z ends p counts) where
  -- a zone that does not count
  same : {q n : ℕ} → q < 64 → starts ends p q z ≡ false → n ≡ get_or counts q 0 → n ≡ how_many (starts ends p q) (numbers_below (z + 1))
  same {q} h e k = k ∙ s.each q h ∙ sym (how_many_below_skip (starts ends p q) z e) ∙ ap (λ (x : ℕ). how_many (starts ends p q) (numbers_below x)) (sym (add-one z))

  -- a held zone
  pub starts_held : is_free p z ≡ false → StartCounts (z + 1) ends p counts
  starts_held e = record {
    long = s.long;
    each = λ q h. same h (ap (λ (b : Bool). b && eqb (get_or ends (2 * z) 0) q) e) refl;
  }

  -- a free zone
  module _ (free : is_free p z ≡ true) (inside : get_or ends (2 * z) 0 < 64) where
    abbrev point : ℕ
    point = get_or ends (2 * z) 0

    abbrev one_more_lem : List ℕ
    one_more_lem = set counts point (get_or counts point 0 + 1)

    test : (q : ℕ) (t : Bool) → eqb point q ≡ t → starts ends p q z ≡ t
    test q t e = ap (λ (b : Bool). b && eqb point q) free ∙ e

    counted : (q : ℕ) → q < 64 → (t : Bool) → eqb point q ≡ t → get_or one_more_lem q 0 ≡ how_many (starts ends p q) (numbers_below (z + 1))
    counted q h true e =
        ap (λ (x : ℕ). get_or one_more_lem x 0) (sym (eqb-true point q e)) ∙ get_or-set_same counts point (get_or counts point 0 + 1) 0 (omega (arith, s.long))
        ∙ ap (λ (x : ℕ). get_or counts x 0 + 1) (eqb-true point q e) ∙ ap (λ (x : ℕ). x + 1) (s.each q h)
        ∙ sym (how_many_below_pass (starts ends p q) z (test q true e)) ∙ ap (λ (x : ℕ). how_many (starts ends p q) (numbers_below x)) (sym (add-one z))
    counted q h false e = same h (test q false e) (get_or-set_other counts point q (get_or counts point 0 + 1) 0 (λ d. eqb-false point q e (sym d)))

    pub starts_free : StartCounts (z + 1) ends p one_more_lem
    starts_free = record {
      long = length-set counts point (get_or counts point 0 + 1) ∙ s.long;
      each = λ q h. counted q h (eqb point q) refl;
    }

  -- a count is at most the number of zones
  pub starts_most : {q : ℕ} → q < 64 → get_or counts q 0 ≤ z
  starts_most {q} h = omega (arith, s.each q h, how_many_below (starts ends p q) z)

-- sums over lists

sum_ext : (f g : ℕ → ℕ) (l : List ℕ) → ((x : ℕ) → Memᴰ x l → f x ≡ g x) → sum_by f l ≡ sum_by g l
sum_ext f g [] h = refl
sum_ext f g (a ∷ l) h =
    sum_by-cons f a l ∙ ap₂ (λ (x y : ℕ). x + y) (h a (Memᴰ.head refl)) (sum_ext f g l (λ x m. h x (Memᴰ.tail m))) ∙ sym (sum_by-cons g a l)

-- the sum over the points below n that pass

both : (a b m q : Bool) → (q ≡ true → b ≡ true) → (a && (b && (m || q))) ≡ ((a && (b && m)) || (a && q))
both false b m q f = refl
both true true m q f = refl
both true false m true f = absurd (true≢false (sym (f refl)))
both true false m false f = refl

apart : (a b m q : Bool) → (m ≡ true → q ≡ false) → ((a && (b && m)) && (a && q)) ≡ false
apart false b m q f = refl
apart true false m q f = refl
apart true true true q f = f refl
apart true true false q f = refl

neither : (a b m q : Bool) → (q ≡ true → b ≡ false) → (a && (b && (m || q))) ≡ (a && (b && m))
neither false b m q f = refl
neither true false m q f = refl
neither true true true q f = refl
neither true true false true f = f refl
neither true true false false f = refl

at_most : (x n : ℕ) → ltb x (suc n) ≡ (ltb x n || eqb x n)
at_most x n = go (ltb x n) refl (eqb x n) refl
  where
    go : (s : Bool) → ltb x n ≡ s → (t : Bool) → eqb x n ≡ t → ltb x (suc n) ≡ (s || t)
    go true e t d = lt-ltb x (suc n) (omega (arith, ltb-true x n e))
    go false e true d = lt-ltb x (suc n) (omega (arith, eqb-true x n d))
    go false e false d = let far : x ≡ n → ⊥ = eqb-false x n d in le-ltb x (suc n) (omega (arith, ltb-false x n e, far))

module _ (free : ℕ → Bool) (end : ℕ → ℕ) (zs : List ℕ) (f : ℕ → Bool) where
  -- how many free zones start at a point
  abbrev at_point : ℕ → ℕ
  at_point q = how_many (λ z. free z && eqb (end z) q) zs

  -- a zone is free and starts at a point below n that passes
  abbrev at_below : ℕ → ℕ → Bool
  at_below n z = free z && (f (end z) && ltb (end z) n)

  sum_below : (n : ℕ) → sum_by at_point (keep f (numbers_below n)) ≡ how_many (at_below n) zs
  sum_below zero =
      sym (how_many_none (at_below 0) zs (λ z m.
      ap (λ (b : Bool). free z && (f (end z) && b)) (le-ltb (end z) 0 (omega arith)) ∙ ap (λ (b : Bool). free z && b) (and-false (f (end z))) ∙ and-false (free z)))
  sum_below (suc n) =
      ap (λ (l : List ℕ). sum_by at_point (keep f l)) (below_suc n) ∙ ap (sum_by at_point) (keep_append f (numbers_below n) (n ∷ []))
      ∙ sum_by-append at_point (keep f (numbers_below n)) (keep f (n ∷ [])) ∙ go (f n) refl (sum_below n)
    where
      split : (z : ℕ) → at_below (suc n) z ≡ (free z && (f (end z) && (ltb (end z) n || eqb (end z) n)))
      split z = ap (λ (b : Bool). free z && (f (end z) && b)) (at_most (end z) n)

      go : (t : Bool) → f n ≡ t → sum_by at_point (keep f (numbers_below n)) ≡ how_many (at_below n) zs
          → sum_by at_point (keep f (numbers_below n)) + sum_by at_point (cons_if t n []) ≡ how_many (at_below (suc n)) zs
      go true e ih =
          let more : how_many (at_below (suc n)) zs ≡ how_many (at_below n) zs + at_point n =
          how_many_ext (at_below (suc n)) (λ z. at_below n z || (free z && eqb (end z) n)) zs
          (λ z m. split z ∙ both (free z) (f (end z)) (ltb (end z) n) (eqb (end z) n) (λ d. ap f (eqb-true (end z) n d) ∙ e))
          ∙ how_many_either (at_below n) (λ z. free z && eqb (end z) n) zs
          (λ z. apart (free z) (f (end z)) (ltb (end z) n) (eqb (end z) n) (λ d. ne_eqb (end z) n (λ k. omega (arith, ltb-true (end z) n d)))) in
          omega arith
      go false e ih =
          let same : how_many (at_below (suc n)) zs ≡ how_many (at_below n) zs =
          how_many_ext (at_below (suc n)) (at_below n) zs
          (λ z m. split z ∙ neither (free z) (f (end z)) (ltb (end z) n) (eqb (end z) n) (λ d. ap f (eqb-true (end z) n d) ∙ e)) in
          omega arith

-- the sum of a part's counts is how many free zones start in it
module _ {points zones : ℕ} {ends : List ℕ} {p : Position} (among : EndsAmong points zones ends p) {counts : List ℕ} (s : StartCounts zones ends p counts) (part : ℕ) where
  pub count_in_lem : count_in counts part ≡ how_many (λ z. is_free p z && has_bit part (get_or ends (2 * z) 0)) (numbers_below zones)
  unfolding count_in
  count_in_lem =
      sum_ext (λ q. get_or counts q 0) (λ q. how_many (starts ends p q) (numbers_below zones)) (keep (has_bit part) (numbers_below 64))
      (λ q m. s.each q (mem_below 64 (mem_keep (has_bit part) (numbers_below 64) m).0))
      ∙ sum_below (is_free p) (λ z. get_or ends (2 * z) 0) (numbers_below zones) (has_bit part) 64
      ∙ how_many_below_ext (λ z. is_free p z && (has_bit part (get_or ends (2 * z) 0) && ltb (get_or ends (2 * z) 0) 64)) (λ z. is_free p z && has_bit part (get_or ends (2 * z) 0)) zones
      (λ z l. let i : get_or ends (2 * z) 0 < points = among.inside (2 * z) (omega arith) in
      ap (λ (b : Bool). is_free p z && (has_bit part (get_or ends (2 * z) 0) && b)) (lt-ltb (get_or ends (2 * z) 0) 64 (omega (arith, among.few)))
      ∙ ap (λ (b : Bool). is_free p z && b) (and-true (has_bit part (get_or ends (2 * z) 0))))

  -- and at most the number of zones
  pub count_in_most : count_in counts part ≤ zones
  count_in_most = omega (arith, count_in_lem, how_many_below (λ z. is_free p z && has_bit part (get_or ends (2 * z) 0)) zones)

-- the sum, one point less at a time

count_in_lowest : (counts : List ℕ) (rest low : ℕ) → rest < 2 ^ 64 → Lowest rest low → count_in counts rest ≡ get_or counts low 0 + count_in counts (set_minus rest (2 ^ low))
unfolding count_in
count_in_lowest counts rest low h l =
    ap (sum_by (λ q. get_or counts q 0))
    (keep_lowest (has_bit rest) (has_bit (set_minus rest (2 ^ low))) 0 64 low (omega arith) (omega (arith, l.inside)) l.there
    (minus_gone rest (2 ^ low) low h (alone_word low l.inside) (alone_there low)) (λ j a b. l.least j b) (λ j a d. others_stay rest low h l j d))
    ∙ sum_by-cons (λ q. get_or counts q 0) low (keep (has_bit (set_minus rest (2 ^ low))) (numbers_below 64))

count_in_none : (counts : List ℕ) → count_in counts 0 ≡ 0
unfolding count_in
count_in_none counts = ap (sum_by (λ q. get_or counts q 0)) (keep_none (has_bit 0) (numbers_below 64) (λ q m. bit_none q))

-- the counts of a part's points are added to n, up to those of `rest`
pub record Adding (counts : List ℕ) (part n rest : ℕ) : Type 0 where
  pub word : rest < 2 ^ 64
  pub whole : n + count_in counts rest ≡ count_in counts part

module _ {counts : List ℕ} {part n rest : ℕ} (a : Adding counts part n rest) where
  module _ {low : ℕ} (l : Lowest rest low) where
    pub adding_most : n + get_or counts low 0 ≤ count_in counts part
    adding_most = omega (arith, a.whole, count_in_lowest counts rest low a.word l)

    pub adding_more : Adding counts part (n + get_or counts low 0) (set_minus rest (2 ^ low))
    adding_more = record {
      word = minus_word rest (2 ^ low) a.word;
      whole = omega (arith, a.whole, count_in_lowest counts rest low a.word l);
    }

    pub adding_fewer : ones (set_minus rest (2 ^ low)) < ones rest
    adding_fewer = omega (arith, size_fewer rest low a.word l.there)

  pub adding_done : rest ≡ 0 → n ≡ count_in counts part
  adding_done e = omega (arith, a.whole, ap (count_in counts) e, count_in_none counts)

-- The rows of the tables: those of the words that start at each point, one row filled from another, and the rows of the words below one.
-- Number 192 × k + v is at block 3 × k + v / 64, so a row is three blocks; a row is copied, and then one block of it is stored again without two
-- words.
use Prim.Native.Nat.{ℕ, ◌+◌, ◌-◌, ◌*◌, ◌/◌, ◌%◌, ◌^◌, ◌≤◌, ◌<◌}
use mathlib.Core.Path.{◌≡◌, refl, sym, ap, ap₂, ◌∙◌}
use mathlib.Core.List.{List}
use mathlib.Core.Logic.{◌⊎◌, inl, inr, ⊎_elim}
use mathlib.Core.Bool.{Bool, true, false, not, ◌&&◌, ◌||◌, and-true, and_assoc}
use native.Mathlib.Omega.{arith}
use borrow.Author.Tests.{eqb-true, eqb-false, eq-eqb, ne_eqb, le-ltb, ltb-true, ltb-false}
use borrow.Rule.Slice.PartMut.{put_mid}
use Rattle.std.proofs.Common.{rules}
use Rattle.std.proofs.lemmas.List.{places}
use lib.ListN.{length, get_or, set, take, drop, replicate}
use lib.Seq.{get_or-set_same, get_or-set_other}
use lib.Dec.{eqb, ltb}
use lib.Bits.{bit_or}
use Rattle.model.specs.Track.{rev}
use Rattle.bits.specs.Sets.{has_bit, set_minus}
use Rattle.bits.proofs.BitLaws.{bit_with, bit_none, bit_minus}
use Rattle.queue.specs.WordSets.{Added}
use Rattle.queue.specs.Follows.{in_row, EndsSized, Starts, RowFilled, comes_after, Follows}
use Rattle.queue.proofs.WordSetLaws.{same_eqb, next_below, no_words}

-- a number of a table is known by its row and its place in it
pair_eqb : (q v e w : ℕ) → v < 192 → w < 192 → eqb (192 * q + v) (192 * e + w) ≡ (eqb v w && eqb e q)
pair_eqb q v e w h g = go (eqb v w) refl
  where
    go : (t : Bool) → eqb v w ≡ t → eqb (192 * q + v) (192 * e + w) ≡ (t && eqb e q)
    go true k = let same : v ≡ w = eqb-true v w k in same_eqb (192 * q + v) (192 * e + w) e q (λ i. omega arith) (λ i. omega arith)
    go false k = let other : v ≡ w → ⊥ = eqb-false v w k in ne_eqb (192 * q + v) (192 * e + w) (λ i. other (omega arith))

-- the words by where they start

pub starts_none : (ends starts : List ℕ) → starts ≡ replicate 192 0 → Starts 0 ends starts
starts_none ends starts e = record {
  long = ap length e;
  row = λ q v _ _. ap (λ (l : List ℕ). in_row l q v) e ∙ no_words 192 (192 * q + v) ∙ ap (λ (t : Bool). t && eqb (get_or ends v 0) q) (sym (le-ltb v 0 (omega arith)));
}

pub starts_more : {w : ℕ} {ends starts starts' : List ℕ} → Starts w ends starts → w < 192 → length starts' ≡ length starts
    → Added (192 * get_or ends w 0 + w) starts starts' → Starts (w + 1) ends starts'
starts_more {w} {ends} {starts} {starts'} s h kept a = record {
  long = kept ∙ s.long;
  row = λ q v l m.
      a.has (192 * q + v) ∙ ap₂ (λ (t u : Bool). t || u) (s.row q v l m) (pair_eqb q v (get_or ends w 0) w m h) ∙
      sym (next_below (λ v. eqb (get_or ends v 0) q) v w);
}

-- the block and the bit of a word in a row
in_row_lem : (l : List ℕ) (k v : ℕ) → in_row l k v ≡ has_bit (get_or l (3 * k + v / 64) 0) (v % 64)
in_row_lem l k v =
    let block : (192 * k + v) / 64 ≡ 3 * k + v / 64 = omega arith in
    let bit : (192 * k + v) % 64 ≡ v % 64 = omega arith in
    ap₂ (λ (i p : ℕ). has_bit (get_or l i 0) p) block bit

-- the two words of the zone of w, as bits of the block of w
own_bit : (w own₁ own v : ℕ) → own₁ ≡ bit_or 0 (2 ^ (2 * (w / 2) % 64)) → own ≡ bit_or own₁ (2 ^ ((2 * (w / 2) + 1) % 64)) → v / 64 ≡ w / 64
    → has_bit own (v % 64) ≡ eqb (v / 2) (w / 2)
own_bit w own₁ own v e f same =
    ap (λ (x : ℕ). has_bit x (v % 64)) f ∙ bit_with own₁ ((2 * (w / 2) + 1) % 64) (v % 64) ∙
    ap (λ (t : Bool). t || eqb (v % 64) ((2 * (w / 2) + 1) % 64)) (ap (λ (x : ℕ). has_bit x (v % 64)) e ∙ bit_with 0 (2 * (w / 2) % 64) (v % 64) ∙ ap (λ (t : Bool). t || eqb (v % 64) (2 * (w / 2) % 64)) (bit_none (v % 64))) ∙
    go (eqb (v % 64) (2 * (w / 2) % 64)) refl
  where
    go : (t : Bool) → eqb (v % 64) (2 * (w / 2) % 64) ≡ t → (t || eqb (v % 64) ((2 * (w / 2) + 1) % 64)) ≡ eqb (v / 2) (w / 2)
    go true k = let first : v % 64 ≡ 2 * (w / 2) % 64 = eqb-true (v % 64) (2 * (w / 2) % 64) k in sym (eq-eqb (v / 2) (w / 2) (omega arith))
    go false k = let other : v % 64 ≡ 2 * (w / 2) % 64 → ⊥ = eqb-false (v % 64) (2 * (w / 2) % 64) k in same_eqb (v % 64) ((2 * (w / 2) + 1) % 64) (v / 2) (w / 2) (λ i. omega arith) (λ i. omega arith)

-- row w of a table is a copy of the point's row, and all other rows are as they were
pub record Copied (starts : List ℕ) (point w : ℕ) (follows copied : List ℕ) : Type 0 where
  pub same : length copied ≡ length follows
  pub block : (b : ℕ) → b < 3 → get_or copied (3 * w + b) 0 ≡ get_or starts (3 * point + b) 0
  pub other : (i : ℕ) → (i < 3 * w) ⊎ (3 * w + 3 ≤ i) → get_or copied i 0 ≡ get_or follows i 0

pub row_copied : (starts : List ℕ) (point w : ℕ) (follows : List ℕ) {row : List ℕ} → 3 * point + 3 ≤ length starts → 3 * w + 3 ≤ length follows
    → row ≡ take (3 * point + 3 - 3 * point) (drop (3 * point) starts) → Copied starts point w follows (put_mid (3 * w) (3 * w + 3 - 3 * w) follows row)
row_copied starts point w follows room room' e =
    rw e record { same = search (rules, places); block = λ b h. search (rules, places); other = λ i h. ⊎_elim (λ h. search (rules, places)) (λ h. search (rules, places)) h }

-- and one block of it stored again without the words of the zone of w
module _ {starts : List ℕ} {point w : ℕ} {follows copied : List ℕ} (c : Copied starts point w follows copied) (room : 3 * w + 3 ≤ length follows)
    (small : w < 192) (fits : (i : ℕ) → get_or starts i 0 < 2 ^ 64) {own₁ own block : ℕ} (own-fits : own < 2 ^ 64)
    (first : own₁ ≡ bit_or 0 (2 ^ (2 * (w / 2) % 64))) (second : own ≡ bit_or own₁ (2 ^ ((2 * (w / 2) + 1) % 64)))
    (stored : block ≡ set_minus (get_or copied (3 * w + w / 64) 0) own) where
  pub row_filled : RowFilled starts point w follows (set copied (3 * w + w / 64) block)
  row_filled = record { row = λ v h. in_row_lem (set copied (3 * w + w / 64) block) w v ∙ row v h (eqb (v / 64) (w / 64)) refl; others = others }
    where
      row : (v : ℕ) → v < 192 → (t : Bool) → eqb (v / 64) (w / 64) ≡ t
          → has_bit (get_or (set copied (3 * w + w / 64) block) (3 * w + v / 64) 0) (v % 64) ≡ (in_row starts point v && not (eqb (v / 2) (w / 2)))
      row v h true e =
          let same : v / 64 ≡ w / 64 = eqb-true (v / 64) (w / 64) e in
          let source : get_or copied (3 * w + w / 64) 0 ≡ get_or starts (3 * point + w / 64) 0 = c.block (w / 64) (omega arith) in
          ap (λ (b : ℕ). has_bit (get_or (set copied (3 * w + w / 64) block) (3 * w + b) 0) (v % 64)) same ∙
          ap (λ (x : ℕ). has_bit x (v % 64)) (get_or-set_same copied (3 * w + w / 64) block 0 (omega (arith, c.same)) ∙ stored ∙ ap (λ (x : ℕ). set_minus x own) source) ∙
          bit_minus (get_or starts (3 * point + w / 64) 0) own (v % 64) (fits (3 * point + w / 64)) own-fits ∙
          ap₂ (λ (b : ℕ) (t : Bool). has_bit (get_or starts (3 * point + b) 0) (v % 64) && not t) (sym same) (own_bit w own₁ own v first second same) ∙
          ap (λ (t : Bool). t && not (eqb (v / 2) (w / 2))) (sym (in_row_lem starts point v))
      row v h false e =
          let other : v / 64 ≡ w / 64 → ⊥ = eqb-false (v / 64) (w / 64) e in
          ap (λ (x : ℕ). has_bit x (v % 64)) (get_or-set_other copied (3 * w + w / 64) (3 * w + v / 64) block 0 (λ i. other (omega arith)) ∙ c.block (v / 64) (omega arith)) ∙
          sym (in_row_lem starts point v) ∙ sym (and-true (in_row starts point v)) ∙
          ap (λ (t : Bool). in_row starts point v && not t) (sym (ne_eqb (v / 2) (w / 2) (λ i. other (omega arith))))

      others : (j v : ℕ) → (j ≡ w → ⊥) → v < 192 → in_row (set copied (3 * w + w / 64) block) j v ≡ in_row follows j v
      others j v n h =
          in_row_lem (set copied (3 * w + w / 64) block) j v ∙
          ap (λ (x : ℕ). has_bit x (v % 64)) (
          get_or-set_other copied (3 * w + w / 64) (3 * j + v / 64) block 0 (λ i. n (omega arith)) ∙
          c.other (3 * j + v / 64) (elsewhere (ltb j w) refl)
          ) ∙
          sym (in_row_lem follows j v)
        where
          elsewhere : (t : Bool) → ltb j w ≡ t → (3 * j + v / 64 < 3 * w) ⊎ (3 * w + 3 ≤ 3 * j + v / 64)
          elsewhere true e = inl (omega (arith, ltb-true j w e))
          elsewhere false e = inr (omega (arith, ltb-false j w e))

-- the rows of the words below one

pub follows_more : {zones w point : ℕ} {ends starts follows follows' : List ℕ} → EndsSized zones ends → Starts (2 * zones) ends starts → w < 2 * zones → point ≡ get_or ends (rev w) 0
    → Follows zones w ends follows → RowFilled starts point w follows follows' → Follows zones (w + 1) ends follows'
follows_more {zones} {w} {point} {ends} {starts} {follows} {follows'} z s h e f r = record { row = λ j v l m. go j v l m (eqb j w) refl }
  where
    inside : get_or ends (rev w) 0 < 64
    inside = z.inside (rev w) (omega arith)

    go : (j v : ℕ) → j < w + 1 → v < 192 → (t : Bool) → eqb j w ≡ t → in_row follows' j v ≡ (ltb v (2 * zones) && comes_after ends j v)
    go j v l m true k =
        let same : j ≡ w = eqb-true j w k in
        rw same (
        r.row v m ∙ ap (λ (t : Bool). t && not (eqb (v / 2) (w / 2))) (s.row point v (rw e inside) m) ∙
        ap (λ (p : ℕ). (ltb v (2 * zones) && eqb (get_or ends v 0) p) && not (eqb (v / 2) (w / 2))) e ∙
        and_assoc (ltb v (2 * zones)) (eqb (get_or ends v 0) (get_or ends (rev w) 0)) (not (eqb (v / 2) (w / 2)))
        )
    go j v l m false k = let other : j ≡ w → ⊥ = eqb-false j w k in r.others j v other m ∙ f.row j v (omega arith) m

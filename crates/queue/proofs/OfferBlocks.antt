-- The words that come after a word and are enterable, offered block by block.
-- A word of a block is a bit of it in the table and in the set; the blocks to come are as at the start.
use Prim.Native.Nat.{ℕ, ◌+◌, ◌-◌, ◌*◌, ◌/◌, ◌%◌, ◌^◌, ◌≤◌, ◌<◌}
use mathlib.Core.Path.{◌≡◌, refl, sym, ◌∙◌, ap, ap₂}
use mathlib.Core.List.{List, ◌++◌}
use mathlib.Core.Bool.{Bool, true, false, not, ◌&&◌}
use native.Mathlib.Omega.{arith}
use lib.ListN.{length, get_or, set, length-set}
use lib.Seq.{get_or-set_same, get_or-set_other}
use lib.Bits.{bit_and, and_lt}
use lib.Dec.{ltb}
use borrow.Author.Tests.{ltb-true, ltb-false}
use Rattle.model.specs.Lists.{count_up, keep}
use Rattle.model.proofs.ListLaws.{mem_count_up, count_up_append, keep_ext, keep_append}
use Rattle.bits.specs.Sets.{has_bit, set_minus}
use Rattle.bits.proofs.BitLaws.{bit_and_lem, bit_minus}
use Rattle.queue.specs.WordSets.{in_set}
use Rattle.queue.specs.Follows.{in_row}
use Rattle.queue.specs.Offers.{members, QueueRoom, Stored, Offering, Offered, enterable_after}
use Rattle.queue.proofs.Filling.{Filling, filling_starts, filling_room, filling_many, filling_done}

-- word v is offered
abbrev is_offered : List ℕ → ℕ → List ℕ → ℕ → Bool
is_offered follows last enterable v = in_row follows last v && in_set enterable v

-- the words of block k and above that are offered
abbrev pub offered_from : List ℕ → ℕ → List ℕ → ℕ → List ℕ
offered_from follows last enterable k = keep (is_offered follows last enterable) (count_up (64 * k) (192 - 64 * k))

-- those of block k, as bits
abbrev pub next_in : List ℕ → ℕ → List ℕ → ℕ → ℕ
next_in follows last enterable k = bit_and (get_or follows (3 * last + k) 0) (get_or enterable k 0)

-- a word of block k is a bit of the block
module _ (k v : ℕ) (a : 64 * k ≤ v) (b : v < 64 * k + 64) where
  word_in_block : (set : List ℕ) → in_set set v ≡ has_bit (get_or set k 0) (v - 64 * k)
  word_in_block set =
      let d : v / 64 ≡ k = omega arith in
      let m : v % 64 ≡ v - 64 * k = omega arith in
      ap₂ (λ (x y : ℕ). has_bit (get_or set x 0) y) d m

  row_in_block : (follows : List ℕ) (last : ℕ) → in_row follows last v ≡ has_bit (get_or follows (3 * last + k) 0) (v - 64 * k)
  row_in_block follows last =
      let d : (192 * last + v) / 64 ≡ 3 * last + k = omega arith in
      let m : (192 * last + v) % 64 ≡ v - 64 * k = omega arith in
      ap₂ (λ (x y : ℕ). has_bit (get_or follows x 0) y) d m

module _ (follows : List ℕ) (last : ℕ) (enterable₀ enterable : List ℕ) (k : ℕ) (same : get_or enterable k 0 ≡ get_or enterable₀ k 0) where
  block_members : keep (is_offered follows last enterable₀) (count_up (64 * k) 64) ≡ members (64 * k) (next_in follows last enterable k)
  block_members =
      keep_ext (is_offered follows last enterable₀) (λ v. has_bit (next_in follows last enterable k) (v - 64 * k)) (count_up (64 * k) 64)
      (λ v m.
      let r = mem_count_up (64 * k) 64 m in
      ap₂ (λ (s t : Bool). s && t) (row_in_block k v r.0 r.1 follows last) (word_in_block k v r.0 r.1 enterable₀ ∙ ap (λ (o : ℕ). has_bit o (v - 64 * k)) (sym same)) ∙
      sym (bit_and_lem (get_or follows (3 * last + k) 0) (get_or enterable k 0) (v - 64 * k)))

  offered_block : k < 3 → offered_from follows last enterable₀ k ≡ members (64 * k) (next_in follows last enterable k) ++ offered_from follows last enterable₀ (k + 1)
  offered_block h =
      let n : 192 - 64 * k ≡ 64 + (192 - 64 * (k + 1)) = omega arith in
      let p : 64 * k + 64 ≡ 64 * (k + 1) = omega arith in
      ap (λ (m : ℕ). keep (is_offered follows last enterable₀) (count_up (64 * k) m)) n ∙
      ap (keep (is_offered follows last enterable₀)) (count_up_append (64 * k) 64 (192 - 64 * (k + 1)) ∙ ap (λ (j : ℕ). count_up (64 * k) 64 ++ count_up j (192 - 64 * (k + 1))) p) ∙
      keep_append (is_offered follows last enterable₀) (count_up (64 * k) 64) (count_up (64 * (k + 1)) (192 - 64 * (k + 1))) ∙
      ap (λ (l : List ℕ). l ++ offered_from follows last enterable₀ (k + 1)) block_members

-- the blocks below k are offered; those from k on are as at the start
pub record OfferingBlocks (follows : List ℕ) (last i found : ℕ) (words₀ froms₀ enterable₀ words froms enterable : List ℕ) (n k : ℕ) : Type 0 where
  pub few : k ≤ 3
  pub blocks : length enterable ≡ 3
  pub filling : Filling i n (offered_from follows last enterable₀ k) words froms found (enterable_after follows last enterable₀) words₀ froms₀
  pub later : (j : ℕ) → k ≤ j → get_or enterable j 0 ≡ get_or enterable₀ j 0
  pub still : (v : ℕ) → v < 64 * k → in_set enterable v ≡ (in_set enterable₀ v && not (in_row follows last v))

pub going_starts : (follows : List ℕ) (last i found : ℕ) (words froms enterable : List ℕ) → length enterable ≡ 3 → OfferingBlocks follows last i found words froms enterable words froms enterable found 0
going_starts follows last i found words froms enterable e = record {
  few = omega arith;
  blocks = e;
  filling = filling_starts i found (enterable_after follows last enterable) words froms;
  later = λ j h. refl;
  still = λ v h. absurd (omega arith);
}

taken_off : (s t : Bool) → (s && not (t && s)) ≡ (s && not t)
taken_off true true = refl
taken_off true false = refl
taken_off false t = refl

module _ {follows : List ℕ} {last i found : ℕ} {words₀ froms₀ enterable₀ words froms enterable : List ℕ} {n k : ℕ} (o : Offering follows last found words₀ froms₀ enterable₀) (g : OfferingBlocks follows last i found words₀ froms₀ enterable₀ words froms enterable n k) where
  module _ (h : k < 3) where
    next_block : offered_from follows last enterable₀ k ≡ members (64 * k) (next_in follows last enterable k) ++ offered_from follows last enterable₀ (k + 1)
    next_block = offered_block follows last enterable₀ enterable k (g.later k (omega arith)) h

    pub going_room : QueueRoom (members (64 * k) (next_in follows last enterable k)) n words froms
    going_room = filling_room o.room g.filling (offered_from follows last enterable₀ (k + 1)) next_block

    module _ (a : get_or follows (3 * last + k) 0 < 2 ^ 64) (b : get_or enterable k 0 < 2 ^ 64) where
      abbrev after : List ℕ
      after = set enterable k (set_minus (get_or enterable k 0) (next_in follows last enterable k))

      still_here : (v : ℕ) → 64 * k ≤ v → v < 64 * k + 64 → in_set after v ≡ (in_set enterable₀ v && not (in_row follows last v))
      still_here v c d =
          let p = v - 64 * k in
          let here : in_set enterable₀ v ≡ has_bit (get_or enterable k 0) p = word_in_block k v c d enterable₀ ∙ ap (λ (x : ℕ). has_bit x p) (sym (g.later k (omega arith))) in
          word_in_block k v c d after ∙
          ap (λ (x : ℕ). has_bit x p) (get_or-set_same enterable k (set_minus (get_or enterable k 0) (next_in follows last enterable k)) 0 (omega (arith, g.blocks))) ∙
          bit_minus (get_or enterable k 0) (next_in follows last enterable k) p b (and_lt 64 (get_or follows (3 * last + k) 0) (get_or enterable k 0) a b) ∙
          ap (λ (t : Bool). has_bit (get_or enterable k 0) p && not t) (bit_and_lem (get_or follows (3 * last + k) 0) (get_or enterable k 0) p) ∙
          taken_off (has_bit (get_or enterable k 0) p) (has_bit (get_or follows (3 * last + k) 0) p) ∙
          ap₂ (λ (s t : Bool). s && not t) (sym here) (sym (row_in_block k v c d follows last))

      still_before : (v : ℕ) → v < 64 * k → in_set after v ≡ (in_set enterable₀ v && not (in_row follows last v))
      still_before v c =
          ap (λ (x : ℕ). has_bit x (v % 64)) (get_or-set_other enterable k (v / 64) (set_minus (get_or enterable k 0) (next_in follows last enterable k)) 0 (λ e. omega arith)) ∙
          g.still v c

      pub going_more : {words' froms' : List ℕ} {r : ℕ} → Stored (members (64 * k) (next_in follows last enterable k)) i n words froms words' froms' r
          → OfferingBlocks follows last i found words₀ froms₀ enterable₀ words' froms' (set enterable k (set_minus (get_or enterable k 0) (next_in follows last enterable k))) r (k + 1)
      going_more s = record {
        few = omega arith;
        blocks = length-set enterable k (set_minus (get_or enterable k 0) (next_in follows last enterable k)) ∙ g.blocks;
        filling = filling_many o.room g.filling (offered_from follows last enterable₀ (k + 1)) next_block s;
        later = λ j c. get_or-set_other enterable k j (set_minus (get_or enterable k 0) (next_in follows last enterable k)) 0 (λ e. omega arith) ∙ g.later j (omega arith);
        still = λ v c. go v c (ltb v (64 * k)) refl;
      }
        where
          go : (v : ℕ) → v < 64 * (k + 1) → (t : Bool) → ltb v (64 * k) ≡ t → in_set after v ≡ (in_set enterable₀ v && not (in_row follows last v))
          go v c true e = still_before v (ltb-true v (64 * k) e)
          go v c false e = still_here v (ltb-false v (64 * k) e) (omega arith)

  pub going_done : 3 ≤ k → Offered follows last i found words₀ froms₀ enterable₀ words froms enterable n
  going_done h =
      let e : k ≡ 3 = omega (arith, g.few) in
      record {
        stored = filling_done o.room g.filling (ap (offered_from follows last enterable₀) e);
        still = λ v c. g.still v (omega arith);
      }

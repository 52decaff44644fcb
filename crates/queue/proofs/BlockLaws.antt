-- The words of one block of a set, stored by its lowest bit again and again.
-- The lowest bit is the first of the words to come, and without it the block has the others.
use Prim.Native.Nat.{ℕ, ◌+◌, ◌-◌, ◌^◌, ◌<◌}
use mathlib.Core.Path.{◌≡◌, ◌∙◌, ap}
use mathlib.Core.List.{List, [], ◌∷◌}
use native.Mathlib.Omega.{arith}
use lib.ListN.{length, set}
use lib.Count.{ones}
use Rattle.model.specs.Lists.{count_up}
use Rattle.model.proofs.ListLaws.{keep_lowest, keep_none}
use Rattle.bits.specs.Sets.{has_bit, set_minus, Lowest}
use Rattle.bits.proofs.BitLaws.{bit_none, minus_gone, minus_word, alone_there, alone_word}
use Rattle.bits.proofs.LowestLaws.{others_stay}
use Rattle.bits.proofs.SizeLaws.{size_fewer}
use Rattle.queue.specs.Offers.{members, QueueRoom, Stored}
use Rattle.queue.proofs.Filling.{Filling, filling_room, filling_one, filling_done}

-- the words of one block

members_lowest : (first rest low : ℕ) → rest < 2 ^ 64 → Lowest rest low → members first rest ≡ (first + low) ∷ members first (set_minus rest (2 ^ low))
members_lowest first rest low h l =
    keep_lowest (λ v. has_bit rest (v - first)) (λ v. has_bit (set_minus rest (2 ^ low)) (v - first)) first 64 (first + low) (omega arith) (omega (arith, l.inside))
    (ap (has_bit rest) place ∙ l.there)
    (ap (has_bit (set_minus rest (2 ^ low))) place ∙ minus_gone rest (2 ^ low) low h (alone_word low l.inside) (alone_there low))
    (λ j a b. l.least (j - first) (omega arith))
    (λ j a d. others_stay rest low h l (j - first) (λ e. d (omega arith)))
  where
    place : first + low - first ≡ low
    place = omega arith

members_none : (first : ℕ) → members first 0 ≡ []
members_none first = keep_none (λ v. has_bit 0 (v - first)) (count_up first 64) (λ v m. bit_none (v - first))

-- the words of a block are stored up to those of `rest`
pub record StoringBlock (first block i found : ℕ) (words₀ froms₀ words froms : List ℕ) (n rest : ℕ) : Type 0 where
  pub word : rest < 2 ^ 64
  pub filling : Filling i n (members first rest) words froms found (members first block) words₀ froms₀

module _ {first block i found : ℕ} {words₀ froms₀ words froms : List ℕ} {n rest : ℕ} (room : QueueRoom (members first block) found words₀ froms₀) (s : StoringBlock first block i found words₀ froms₀ words froms n rest) where
  module _ {low : ℕ} (l : Lowest rest low) where
    pub block_room : (n < length words) × (n < length froms)
    block_room =
        let b : QueueRoom ((first + low) ∷ []) n words froms = filling_room room s.filling (members first (set_minus rest (2 ^ low))) (members_lowest first rest low s.word l) in
        (omega (arith, b.in_words), omega (arith, b.in_froms))

    pub block_more : StoringBlock first block i found words₀ froms₀ (set words n (first + low)) (set froms n i) (n + 1) (set_minus rest (2 ^ low))
    block_more = record {
      word = minus_word rest (2 ^ low) s.word;
      filling = filling_one room s.filling (members_lowest first rest low s.word l);
    }

    pub block_fewer : ones (set_minus rest (2 ^ low)) < ones rest
    block_fewer = omega (arith, size_fewer rest low s.word l.there)

  pub block_done : rest ≡ 0 → Stored (members first block) i found words₀ froms₀ words froms n
  block_done e = filling_done room s.filling (ap (members first) e ∙ members_none first)

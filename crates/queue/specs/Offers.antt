-- Words put at the end of a queue, as two lists: those that come after a word and may still be entered.
use Rattle.std.specs.Prelude.{ℕ, ◌+◌, ◌-◌, ◌*◌, ◌≤◌, ◌<◌, List, map, ◌≡◌, not, ◌&&◌, length}
use Rattle.model.specs.Lists.{count_up, numbers_below, keep, overwritten_at}
use Rattle.bits.specs.Sets.{has_bit}
use Rattle.queue.specs.WordSets.{in_set}
use Rattle.queue.specs.Follows.{in_row}

-- the words of one block of 64, whose bit 0 is word `first`, ascending
abbrev pub members : ℕ → ℕ → List ℕ
members first block = keep (λ v. has_bit block (v - first)) (count_up first 64)

-- there is room for these words
pub record QueueRoom (vs : List ℕ) (found : ℕ) (words froms : List ℕ) : Type 0 where
  pub in_words : found + length vs ≤ length words
  pub in_froms : found + length vs ≤ length froms

-- these words are at the end of the queue, each found from place i
pub record Stored (vs : List ℕ) (i found : ℕ) (words froms words' froms' : List ℕ) (r : ℕ) : Type 0 where
  pub longer : r ≡ found + length vs
  pub words_stored : words' ≡ overwritten_at found vs words
  pub froms_stored : froms' ≡ overwritten_at found (map (λ v. i) vs) froms

-- the words in the row of `last` that are enterable, ascending
abbrev pub enterable_after : List ℕ → ℕ → List ℕ → List ℕ
enterable_after follows last enterable = keep (λ v. in_row follows last v && in_set enterable v) (numbers_below 192)

-- what an offering asks: a row for the word, a set of three blocks, and room
pub record Offering (follows : List ℕ) (last found : ℕ) (words froms enterable : List ℕ) : Type 0 where
  pub row : 3 * last + 3 ≤ length follows
  pub blocks : length enterable ≡ 3
  pub room : QueueRoom (enterable_after follows last enterable) found words froms

-- what it gives: those words are in the queue, and enterable no more
pub record Offered (follows : List ℕ) (last i found : ℕ) (words froms enterable words' froms' enterable' : List ℕ) (r : ℕ) : Type 0 where
  pub stored : Stored (enterable_after follows last enterable) i found words froms words' froms' r
  pub still : (v : ℕ) → v < 192 → in_set enterable' v ≡ (in_set enterable v && not (in_row follows last v))

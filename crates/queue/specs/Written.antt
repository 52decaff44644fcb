-- A route that a queue holds, read back from its last word, and an entry of the plan made of it.
use Rattle.std.specs.Prelude.{ℕ, ◌+◌, ◌≤◌, ◌<◌, List, ◌∷◌, ◌≡◌, length, get_or}
use Rattle.model.specs.Lists.{overwritten_at}
use Rattle.least.specs.Queue.{path_to}

-- the words from place 0 to a place of the queue in two lists
abbrev pub route_to : List ℕ → List ℕ → ℕ → List ℕ
route_to words froms place = path_to (record { words = words; froms = froms }) place

-- each place up to this one was found from an earlier one
pub record Falling (froms : List ℕ) (place : ℕ) : Type 0 where
  pub inside : place < length froms
  pub falls : (j : ℕ) → 0 < j → j ≤ place → get_or froms j 0 < j

-- and has a word of 16 bits
pub record Readable (words froms : List ℕ) (place : ℕ) : Type 0 where
  pub falling : Falling froms place
  pub inside : place < length words
  pub small : (j : ℕ) → j ≤ place → get_or words j 0 < 65536

-- the carrier, the count of words, the words
abbrev pub entry_of : ℕ → List ℕ → List ℕ
entry_of c ws = c ∷ length ws ∷ ws

-- what the writing of an entry asks
pub record EntryRoom (carrier place : ℕ) (words froms plan : List ℕ) (k : ℕ) : Type 0 where
  pub readable : Readable words froms place
  pub carrier_small : carrier < 65536
  pub few : place < 65535
  -- no route to a place has more words than there are places up to it
  pub room : k + 3 + place ≤ length plan

-- what it gives: where the next entry starts, and the plan with this one in it
pub record EntryWritten (carrier place : ℕ) (words froms plan : List ℕ) (k : ℕ) (plan' : List ℕ) (r : ℕ) : Type 0 where
  pub next : r ≡ k + length (entry_of carrier (route_to words froms place))
  pub stored : plan' ≡ overwritten_at k (entry_of carrier (route_to words froms place)) plan

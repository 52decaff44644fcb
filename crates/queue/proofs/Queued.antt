-- The queue of one carrier's search in its two lists: what they hold while words are found.
-- Definitions that the laws of the offering and of the search share; no contract names them.
use Prim.Native.Nat.{ℕ, ◌≤◌, ◌<◌}
use mathlib.Core.List.{List}
use mathlib.Core.Path.{◌≡◌}
use mathlib.Core.Bool.{not, ◌&&◌}
use lib.ListN.{length, get_or, take}
use lib.Dec.{eqb}
use Rattle.model.specs.Lists.{numbers_below, any_of, how_many}
use Rattle.model.specs.Track.{Track}
use Rattle.model.specs.Position.{Position}
use Rattle.rules.specs.Key.{may_enter}
use Rattle.least.specs.Queue.{Queue}
use Rattle.queue.specs.WordSets.{in_set}

-- the zones of a track: all that the ungated step rule reads of it
abbrev pub zones_only : ℕ → List ℕ → Track
zones_only zones ends = record { points = 0; home = 0; zones = zones; ends = ends }

-- the queue in two lists: their first `found` entries
abbrev pub queue_in : List ℕ → List ℕ → ℕ → Queue
queue_in words froms found = record { words = take found words; froms = take found froms }

-- the lists of carrier c's search over m words, with so many found
pub record Queued (m : ℕ) (p : Position) (c : ℕ) (words froms enterable : List ℕ) (found : ℕ) : Type 0 where
  pub room_words : m ≤ length words
  pub room_froms : m ≤ length froms
  pub blocks : length enterable ≡ 3
  pub inside : (j : ℕ) → j < found → get_or words j 0 < m
  -- each was found from an earlier one
  pub falls : (j : ℕ) → 0 < j → j < found → get_or froms j 0 < j
  -- a word is enterable where the carrier may enter it and it is not in the queue yet
  pub enters : (v : ℕ) → v < m → in_set enterable v ≡ (may_enter p c v && not (any_of (eqb v) (take found words)))
  -- no word is in it twice
  pub counted : how_many (λ v. any_of (eqb v) (take found words)) (numbers_below m) ≡ found

-- The carrier that leaves next: what the search over the carriers asks and gives.
use Rattle.std.specs.Prelude.{ℕ, ◌*◌, ◌<◌, List, ◌≡◌, length, Option as OptionInCode, Some, None}
use Rattle.std.proofs.Math.Option.{Option, none, some}
use Rattle.model.specs.Track.{Track}
use Rattle.model.specs.Position.{Position, at, carrier_of, outs}
use Rattle.model.specs.Accepted.{Laid}
use Rattle.rules.specs.Routes.{Entry}
use Rattle.rules.specs.Key.{first_to_go}
use Rattle.rules.specs.SearchCount.{sum_of_lengths, tried}
use Rattle.search.specs.Order.{InOrder}
use Rattle.queue.specs.WordSets.{FreeWords}
use Rattle.queue.specs.Follows.{BoardTable}
use Rattle.queue.specs.Written.{route_to, Readable}
use Rattle.search.specs.declared.Departure.{Departure}
use Rattle.search.specs.declared.Outcome.{Outcome}

-- what the search over the carriers asks: a position laid on the track, the table, the words of the free zones, and the order
pub record Seeking (t : Track) (p follows free order : List ℕ) : Type 0 where
  pub laid : Laid t p
  pub tables : BoardTable t.zones t.ends p follows
  pub blocks : length free ≡ 3
  pub free_words : FreeWords p free
  pub in_order : InOrder p order

-- the carrier of a zone with the route to a place of the queue, or none
abbrev pub entry_given : Position → List ℕ → List ℕ → OptionInCode Departure → Option Entry
entry_given p words froms (Some d) = some (record { carrier = carrier_of (at p d.zone); words = route_to words froms d.place })
entry_given p words froms None = none

-- a carrier stands in the zone, and the route can be read
pub record Given (zones : ℕ) (p : Position) (words froms : List ℕ) (zone place : ℕ) : Type 0 where
  pub inside : zone < length p
  pub numbered : carrier_of (at p zone) ≡ 0 → ⊥
  pub few : place < 2 * zones
  pub readable : Readable words froms place

-- of an answer that names nobody nothing is said
abbrev pub GivenBy : ℕ → Position → List ℕ → List ℕ → OptionInCode Departure → Type 0
GivenBy zones p words froms (Some d) = Given zones p words froms d.zone d.place
GivenBy zones p words froms None = Unit {0}

-- what it gives: the entry of the carrier that leaves next, or none, and how many words the tries reached
pub record Sought (t : Track) (p words froms : List ℕ) (r : Outcome) : Type 0 where
  pub entry : entry_given p words froms r.departure ≡ first_to_go t p (outs p)
  pub given : GivenBy t.zones p words froms r.departure
  pub searched_is : r.searched ≡ sum_of_lengths (tried t p (outs p))

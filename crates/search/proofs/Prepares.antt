-- What the rounds ask holds once the table, the set and the order are made.
-- From the board's own facts, and what the filling and the sorting give.
use Prim.Native.Nat.{ℕ, ◌*◌}
use mathlib.Core.Path.{◌≡◌}
use mathlib.Core.List.{List}
use lib.ListN.{length, take}
use Rattle.model.specs.Track.{Track}
use Rattle.carriers.specs.Order.{Sorted}
use Rattle.queue.specs.WordSets.{FreeWords}
use Rattle.queue.specs.Follows.{Follows}
use Rattle.search.specs.Sending.{Sendable, Prepared}
use Rattle.search.proofs.Retiring.{sorted_in_order}

module _ {t : Track} {p plan : List ℕ} (sendable : Sendable t p plan) where
  pub sendable_prepared : {follows free order : List ℕ} {count : ℕ} → Follows t.zones (2 * t.zones) t.ends follows → length follows ≡ 576 → FreeWords p free → length free ≡ 3 → Sorted p order count
      → Prepared t p follows free (take count order) plan
  sendable_prepared filled f words b sorted = record {
    seeking = record {
      laid = sendable.bounded.laid;
      tables = record { few = sendable.bounded.zones_most; each = sendable.bounded.laid.each; both = sendable.bounded.ends_count; rows = f; filled = filled };
      blocks = b;
      free_words = words;
      in_order = sorted_in_order sorted;
    };
    carriers_small = sendable.carriers_small;
    room = sendable.room;
  }

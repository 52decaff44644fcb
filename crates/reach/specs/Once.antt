-- What a growing asks and gives, of the points grown from and the count of steps that are carried through all the free parts of a board.
use Rattle.std.specs.Prelude.{ℕ, ◌+◌, List, ◌≡◌, false}
use Rattle.std.specs.Int.Bits.{bit_or}
use Rattle.model.specs.Lists.{numbers_below, how_many}
use Rattle.bits.specs.Sets.{has_bit}
use Rattle.reach.specs.Ways.{Reach, Grown}
use Rattle.reach.specs.declared.growing.GrownFrom.{GrownFrom}
use Rattle.reach.specs.declared.Growth.{Growth}

-- nothing that is reached from p is grown from yet
abbrev pub Untouched : List ℕ → ℕ → GrownFrom → Type 0
Untouched ways p before = (q : ℕ) → Reach ways p q → has_bit before.set q ≡ false

-- all that is reached from p is found and is now in the set, and the count is more by as many
pub record GrownOnce (ways : List ℕ) (p : ℕ) (before : GrownFrom) (r : Growth) : Type 0 where
  pub all : Grown ways p r.found
  pub set : r.after.set ≡ bit_or before.set r.found
  pub steps : r.after.steps ≡ before.steps + how_many (has_bit r.found) (numbers_below 64)

-- The zones in order, after some of their carriers have left.
use Rattle.std.specs.Prelude.{List, ◌≡◌, ◌<◌, not, ℕ, length}
use mathlib.Core.List.{Memᴰ}
use Rattle.model.specs.Lists.{keep}
use Rattle.model.specs.Position.{Position, is_free, outs}
use Rattle.carriers.specs.Order.{carriers_in}

-- those of the zones that are still held have the carriers out, ascending
pub record InOrder (p : Position) (order : List ℕ) : Type 0 where
  pub inside : (z : ℕ) → Memᴰ z order → z < length p
  pub carriers : carriers_in p (keep (λ z. not (is_free p z)) order) ≡ outs p

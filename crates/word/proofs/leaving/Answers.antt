-- `word::leaving` meets its contract: the end read is the reverse's.
-- The contract of `reverse` tells the word whose end is read.
use Prim.Native.Nat.{ℕ}
use mathlib.Core.Path.{ap}
use lib.ListN.{get_or}
use Rattle.word.proofs.leaving.Goals as goal

pub returns : goal.returns
returns c = ap (λ (v : ℕ). get_or c.args.ends.now v 0) c.reverse.ensures

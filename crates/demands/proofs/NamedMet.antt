-- Demand 3, over the definitions: of the named carriers, which are those that the collapse leaves.
-- Tries by the key's order of retirements, single moves on full boards by home's set of the collapse.
use Prim.Native.Nat.{ℕ}
use mathlib.Core.List.{List, map}
use mathlib.Core.Path.{sym, subst}
use Rattle.model.specs.Track.{Track}
use Rattle.model.specs.Position.{Position}
use Rattle.model.specs.Accepted.{Laid}
use Rattle.rules.specs.Tries.{Tries, NoneCanGo}
use Rattle.rules.specs.Key.{run}
use Rattle.rules.specs.Collapse.{left}
use Rattle.order.proofs.LastPosition.{tries_of_retires}
use Rattle.order.proofs.KeyRun.{run_retires, run_ends}
use Rattle.order.proofs.Named.{named_stays, left_named, tries_laid}
use Rattle.order.proofs.AllTries.{tries_exist, tries_one}
use Rattle.order.proofs.AllMoves.{moves_exist, moves_one}
use Rattle.blocking.proofs.FullBoards.{full_board_still}
use Rattle.blocking.proofs.SameList.{collapse_same}
use Rattle.demands.specs.Demands.{NamedRight, NamedAlwaysRight}

-- the key's own order of retirements is a list of tries after which none can go
tried_out : (t : Track) (q : Position) → Laid t q → (ds : List ℕ) × (r : Position) × Tries t q ds r × NoneCanGo t r
tried_out t q laid = (map (λ e. e.carrier) (run t q).plan, (run t q).last, tries_of_retires (run_retires t q laid), run_ends t q laid)

pub named_right : NamedAlwaysRight
named_right t p laid =
    record {
      tried = tries_exist laid;
      tried_once = λ cs q r a b. tries_one a b;
      left_out = λ cs q ts c m. named_stays t p laid ts m;
      left_out_only = λ cs q ts none c out. left_named t p laid ts none out;
      ends = λ cs q ts. tried_out t q (tries_laid ts laid);
      moved = moves_exist laid;
      moved_once = λ ms q r a b. moves_one a b;
      still = λ full ms q m c w named stands. full_board_still laid full m c w named stands;
    }

pub left_right : (t : Track) (p : Position) → Laid t p → NamedRight t p (left t p)
left_right t p laid = subst (λ (l : List ℕ). NamedRight t p l) (sym (collapse_same laid)) (named_right t p laid)

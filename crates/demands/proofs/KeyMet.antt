-- Demand 2 of the key, over the definitions: what `run`, `named` and `verdict_of` give is right on every position laid on a track.
-- Each field is a theorem of the key's order of retirements.
use mathlib.Core.Path.{refl}
use Rattle.rules.specs.Key.{run, named}
use Rattle.order.proofs.KeyRun.{run_retires, run_lowest}
use Rattle.order.proofs.Named.{named_iff_blocked, named_ascending, unnamed_iff_ordered}
use Rattle.order.proofs.Verdicts.{zero_none, verdict_ordered, verdict_none_blocked, verdict_some_blocked, verdict_cases}
use Rattle.order.proofs.Sizes.{plan_fits}
use Rattle.marking.proofs.SheetMarked.{empty_of_unnamed}
use Rattle.demands.specs.Demands.{KeyAlwaysRight}

pub key_right : KeyAlwaysRight
key_right t p laid =
    record {
      entries = (run t p).plan;
      last = (run t p).last;
      written = refl;
      retires = run_retires t p laid;
      lowest = run_lowest t p laid;
      short = λ e m. (plan_fits t p laid e m).short;
      ordered = verdict_ordered t p laid;
      order_given = λ v. empty_of_unnamed t p laid ((unnamed_iff_ordered t p laid).1 ((verdict_ordered t p laid).0 v));
      none_named = zero_none (named t p);
      none_blocked = verdict_none_blocked t p laid;
      some_blocked = verdict_some_blocked t p laid;
      verdicts = verdict_cases (named t p);
      blocked = named_iff_blocked t p laid;
      ascending = named_ascending t p laid;
    }

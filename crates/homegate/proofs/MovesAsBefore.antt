-- The home gate in single moves: one that heads for the home point goes only into home, and all else is as by the older rule.
-- The laws of the rules, gathered.
use Rattle.rules.proofs.MovesGated.{allowed_before, gate_shut, gate_passed, home_as_before}
use Rattle.homegate.specs.AgainstOlder.{MovesGated}

pub gate_in_moves : MovesGated
gate_in_moves t p once =
    record {
      shut = λ c u w q s e a. gate_shut once s e a;
      elsewhere = λ c u w q s n. (allowed_before, gate_passed once s n);
      into_home = λ c q. (allowed_before, home_as_before);
    }

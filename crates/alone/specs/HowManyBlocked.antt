-- Exactly one carrier is blocked; two or more are. Blocked is the rules' own relation: out, and in no sequence of retirements.
use Rattle.std.specs.Prelude.{ℕ, ◌≡◌}
use Rattle.model.specs.Track.{Track}
use Rattle.model.specs.Position.{Position}
use Rattle.rules.specs.Routes.{Blocked}

pub record OneBlocked (t : Track) (p : Position) : Type 0 where
  pub carrier : ℕ
  pub blocked : Blocked t p carrier
  pub no_other : (d : ℕ) → Blocked t p d → d ≡ carrier

pub record TwoBlocked (t : Track) (p : Position) : Type 0 where
  pub one : ℕ
  pub other : ℕ
  pub differ : one ≡ other → ⊥
  pub one_blocked : Blocked t p one
  pub other_blocked : Blocked t p other

-- Every list of single moves, of any numbers whatever, leads from a laid position to one position and no other, which is laid too.
-- Each move is allowed or forbidden by its test.
use mathlib.Core.Path.{◌≡◌, refl, sym, subst}
use mathlib.Core.List.{List, [], ◌∷◌}
use mathlib.Core.Option.{Option, none, some}
use Rattle.model.specs.Track.{Track}
use Rattle.model.specs.Position.{Position}
use Rattle.model.specs.Accepted.{Laid}
use Rattle.model.proofs.PositionLaws.{laid_retire}
use Rattle.model.proofs.MoveLaws.{moved_laid}
use Rattle.rules.specs.Tries.{Move, Allowed, enters, arrives, Moved, Moves}
use Rattle.rules.specs.SingleMoves.{after_move}
use Rattle.rules.proofs.MoveTested.{move_of_test, forbidden_tested}

module _ {t : Track} where
  -- what a move leaves is laid
  pub allowed_laid : {p q : Position} {m : Move} → Laid t p → Allowed t p m q → Laid t q
  allowed_laid {p} laid (enters {c} {w} u s elsewhere word free touches) = moved_laid t p laid c u w s word
  allowed_laid {p} laid (arrives {c} u s e) = laid_retire t c p laid

  pub moved_keeps_laid : {p q : Position} {m : Move} → Laid t p → Moved t p m q → Laid t q
  moved_keeps_laid laid (Moved.done a) = allowed_laid laid a
  moved_keeps_laid laid (Moved.forbidden n) = laid

  pub moves_laid : {p q : Position} {ms : List Move} → Laid t p → Moves t p ms q → Laid t q
  moves_laid laid Moves.unmoved = laid
  moves_laid laid (Moves.more y ys) = moves_laid (moved_keeps_laid laid y) ys

  -- what a move leaves does not turn on where its carrier is found standing
  pub allowed_one : {p q r : Position} {m : Move} → Allowed t p m q → Allowed t p m r → q ≡ r
  allowed_one (enters u s elsewhere word free touches) (enters v r n w f e) = refl
  allowed_one (arrives u s e) (arrives v r f) = refl

  pub moved_one : {p q r : Position} {m : Move} → Moved t p m q → Moved t p m r → q ≡ r
  moved_one (Moved.done a) (Moved.done b) = allowed_one a b
  moved_one (Moved.done a) (Moved.forbidden n) = absurd (n _ a)
  moved_one (Moved.forbidden n) (Moved.done a) = absurd (n _ a)
  moved_one (Moved.forbidden n) (Moved.forbidden m) = refl

  pub moves_one : {p q r : Position} {ms : List Move} → Moves t p ms q → Moves t p ms r → q ≡ r
  moves_one Moves.unmoved Moves.unmoved = refl
  moves_one (Moves.more y ys) (Moves.more {r = r} {ms = ms} z zs) = moves_one ys (subst (λ (a : Position). Moves t a ms r) (sym (moved_one y z)) zs)

-- what the test of a move finds decides it
pub move_exists : {t : Track} {p : Position} → Laid t p → (m : Move) → (q : Position) × Moved t p m q
move_exists {t} {p} laid m = go (after_move t p m) refl
  where
    go : (o : Option Position) → after_move t p m ≡ o → (q : Position) × Moved t p m q
    go none e = (p, Moved.forbidden ((forbidden_tested t p laid.once m).0 e))
    go (some q) e = (q, Moved.done (move_of_test t p m e))

pub moves_exist : {t : Track} {p : Position} → Laid t p → (ms : List Move) → (q : Position) × Moves t p ms q
moves_exist {p = p} laid [] = (p, Moves.unmoved)
moves_exist {p = p} laid (m ∷ ms) =
    let y = move_exists laid m in
    let r = moves_exist {p = y.0} (moved_keeps_laid laid y.1) ms in
    (r.0, Moves.more y.1 r.1)

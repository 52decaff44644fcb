-- What a caller of the mover knows: a move that was done leaves what the definition says, and the position is ready for another; one that wasn't
-- changes nothing.
-- By the two cases of the outcome.
use mathlib.Core.Path.{◌≡◌, refl, sym, ap, ◌∙◌}
use mathlib.Core.Bool.{Bool, true, false, true≢false}
use mathlib.Core.Option.{Option, none, some}
use Rattle.model.specs.Track.{Track}
use Rattle.model.specs.Position.{Position}
use Rattle.model.specs.Accepted.{Ready}
use Rattle.rules.specs.Tries.{Move}
use Rattle.rules.specs.SingleMoves.{after_move}
use Rattle.rules.proofs.MoveTested.{move_of_test}
use Rattle.movelog.proofs.ReadyKept.{ready_allowed}
use Rattle.mover.specs.MoveTried.{is_done, left_or, MoveTried}

module _ {t : Track} {p q : Position} {m : Move} {done : Bool} (tried : MoveTried t p m done q) where
  pub done_leaves : done ≡ true → after_move t p m ≡ some q
  done_leaves e = go (after_move t p m) refl (sym tried.done_is ∙ e)
    where
      go : (o : Option Position) → after_move t p m ≡ o → is_done (after_move t p m) ≡ true → after_move t p m ≡ some q
      go none f d = absurd (true≢false (sym d ∙ ap is_done f))
      go (some r) f d = f ∙ ap some (sym (tried.left_is ∙ ap (left_or p) f))

  pub forbidden_leaves : done ≡ false → (after_move t p m ≡ none) × (q ≡ p)
  forbidden_leaves e = go (after_move t p m) refl (sym tried.done_is ∙ e)
    where
      go : (o : Option Position) → after_move t p m ≡ o → is_done (after_move t p m) ≡ false → (after_move t p m ≡ none) × (q ≡ p)
      go none f d = (f, tried.left_is ∙ ap (left_or p) f)
      go (some r) f d = absurd (true≢false (sym (ap is_done f) ∙ d))

  pub done_ready : done ≡ true → Ready t p → Ready t q
  done_ready e ready = ready_allowed ready (move_of_test t p m (done_leaves e))

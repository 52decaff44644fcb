-- The replay as defined is what is promised of it: on every laid position its answer is one of two outcomes, all moves carried out or a stop at a
-- forbidden one, and never both.
-- By induction over the moves; the test of a move is tied to `Allowed` by the law of the rules.
use Prim.Native.Nat.{ℕ, zero, suc}
use mathlib.Core.List.{List, [], ◌∷◌}
use mathlib.Core.Path.{◌≡◌, refl, sym, ap, ◌∙◌, subst}
use mathlib.Core.Option.{Option, none, some}
use mathlib.Core.Logic.{◌⊎◌, inl, inr}
use native.Mathlib.Omega.{arith}
use lib.ListN.{length, take}
use lib.Seq.{take-length}
use Rattle.model.specs.Track.{Track}
use Rattle.model.specs.Position.{Position}
use Rattle.model.specs.Accepted.{Laid}
use Rattle.rules.specs.Tries.{Move, Allowed, Moves}
use Rattle.rules.specs.SingleMoves.{after_move}
use Rattle.rules.proofs.MoveTested.{move_of_test, forbidden_tested}
use Rattle.order.proofs.AllMoves.{allowed_laid, moves_laid}
use Rattle.order.proofs.Named.{blocked_named}
use Rattle.demands.proofs.NamedMet.{named_right}
use Rattle.movelog.specs.CarriedOut.{CarriedOut, none_left, next, StopsAfter, here, later}
use Rattle.movelog.specs.Replay.{ReplayAnswer, one_more, replay_on, replay_for}
use Rattle.movelog.specs.ReplayRight.{ReplayRight}
use Rattle.movelog.proofs.ReadyKept.{limited_carried}
use Rattle.movelog.proofs.CarriedLaws.{carried_moves, stops_carried, carried_one, stops_one, carried_or_stops}

record AllDone (t : Track) (p : Position) (ms : List Move) (a : ReplayAnswer) : Type 0 where
  number_is : a.number ≡ 0
  moves_is : a.moves ≡ length ms
  carried : CarriedOut t p ms a.shown

record Stopped (t : Track) (p : Position) (ms : List Move) (a : ReplayAnswer) : Type 0 where
  number_is : a.number ≡ 38
  stops : StopsAfter t p ms a.moves a.shown

abbrev Outcome : Track → Position → List Move → ReplayAnswer → Type 0
Outcome t p ms a = AllDone t p ms a ⊎ Stopped t p ms a

-- one more move before
outcome_next : {t : Track} {p q : Position} {m : Move} {ms : List Move} {a : ReplayAnswer} → Allowed t p m q → Outcome t q ms a → Outcome t p (m ∷ ms) (one_more a)
outcome_next move (inl d) = inl (record { number_is = d.number_is; moves_is = ap suc d.moves_is; carried = next move d.carried })
outcome_next move (inr s) = inr (record { number_is = s.number_is; stops = later move s.stops })

outcome : (t : Track) (p : Position) (ms : List Move) → Laid t p → Outcome t p ms (replay_for t p ms)
unfolding replay_for
outcome t p [] laid = inl (record { number_is = refl; moves_is = refl; carried = none_left })
outcome t p (m ∷ ms) laid = go (after_move t p m) refl (λ q. outcome t q ms)
  where
    go : (o : Option Position) → after_move t p m ≡ o → ((q : Position) → Laid t q → Outcome t q ms (replay_for t q ms)) → Outcome t p (m ∷ ms) (replay_on p o (λ q. replay_for t q ms))
    go none e ih = inr (record { number_is = refl; stops = here ((forbidden_tested t p laid.once m).0 e) })
    go (some q) e ih = let move = move_of_test t p m e in outcome_next move (ih q (allowed_laid laid move))

module _ {t : Track} {p : Position} {ms : List Move} {a : ReplayAnswer} (laid : Laid t p) where
  -- the moves that were done
  done_moves : Outcome t p ms a → CarriedOut t p (take a.moves ms) a.shown
  done_moves (inl d) = subst (λ (l : List Move). CarriedOut t p l a.shown) (sym (ap (λ (n : ℕ). take n ms) d.moves_is ∙ take-length ms)) d.carried
  done_moves (inr s) = stops_carried s.stops

  right_of : Outcome t p ms a → ReplayRight t p ms a.number a.moves a.shown
  right_of o =
      let moved : Moves t p (take a.moves ms) a.shown = carried_moves (done_moves o) in
      record {
        carried = done_moves o;
        all_done = all o;
        stopped = stop o;
        numbers = number_of o;
        done_exactly = (λ e. (a.shown, (all o e).0), λ c. zero_of o c);
        stopped_exactly = (λ e. (a.moves, a.shown, stop o e), λ s. stop_of o s);
        one_end = λ r c. one_end o c;
        one_stop = λ n r s. one_stop o s;
        moved = moved;
        laid = moves_laid laid moved;
        limited = λ limited. limited_carried laid limited (done_moves o);
        still = λ full c w blocked s. (named_right t p laid).still full (take a.moves ms) a.shown moved c w (blocked_named t p laid blocked) s;
      }
    where
      all : Outcome t p ms a → a.number ≡ 0 → CarriedOut t p ms a.shown × (a.moves ≡ length ms)
      all (inl d) e = (d.carried, d.moves_is)
      all (inr s) e = absurd (let f : 38 ≡ zero = sym s.number_is ∙ e in omega arith)

      stop : Outcome t p ms a → a.number ≡ 38 → StopsAfter t p ms a.moves a.shown
      stop (inl d) e = absurd (let f : zero ≡ 38 = sym d.number_is ∙ e in omega arith)
      stop (inr s) e = s.stops

      number_of : Outcome t p ms a → (a.number ≡ 0) ⊎ (a.number ≡ 38)
      number_of (inl d) = inl d.number_is
      number_of (inr s) = inr s.number_is

      zero_of : Outcome t p ms a → (r : Position) × CarriedOut t p ms r → a.number ≡ 0
      zero_of (inl d) c = d.number_is
      zero_of (inr s) c = absurd (carried_or_stops c.1 s.stops)

      stop_of : Outcome t p ms a → (n : ℕ) × (r : Position) × StopsAfter t p ms n r → a.number ≡ 38
      stop_of (inl d) s = absurd (carried_or_stops d.carried s.2)
      stop_of (inr s) r = s.number_is

      one_end : Outcome t p ms a → {r : Position} → CarriedOut t p ms r → r ≡ a.shown
      one_end (inl d) c = carried_one c d.carried
      one_end (inr s) c = absurd (carried_or_stops c s.stops)

      one_stop : Outcome t p ms a → {n : ℕ} {r : Position} → StopsAfter t p ms n r → (n ≡ a.moves) × (r ≡ a.shown)
      one_stop (inl d) s = absurd (carried_or_stops d.carried s)
      one_stop (inr s) r = stops_one r s.stops

pub replay_right : (t : Track) (p : Position) (ms : List Move) → Laid t p → ReplayRight t p ms (replay_for t p ms).number (replay_for t p ms).moves (replay_for t p ms).shown
replay_right t p ms laid = right_of laid (outcome t p ms laid)

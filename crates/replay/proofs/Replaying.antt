-- A log carried out pair by pair: what is left of it, from the position as it is now, has the whole replay's answer, but for the moves done so far.
-- By the definition's two cases at each pair; where fewer than two words are left there is no move.
use Prim.Native.Nat.{ℕ, suc, ◌+◌, ◌*◌, ◌/◌, ◌≤◌, ◌<◌}
use mathlib.Core.List.{List, [], ◌∷◌}
use mathlib.Core.Path.{◌≡◌, refl, sym, ap, ◌∙◌}
use mathlib.Core.Option.{Option, none, some}
use mathlib.Core.Bool.{Bool, true, false}
use native.Mathlib.Omega.{arith}
use lib.ListN.{length, get_or, drop, length-drop}
use lib.Seq.{drop-cons}
use Rattle.model.specs.Track.{Track}
use Rattle.model.specs.Position.{Position}
use Rattle.model.specs.Accepted.{Ready}
use Rattle.rules.specs.Tries.{Move}
use Rattle.rules.specs.SingleMoves.{after_move}
use Rattle.movelog.specs.Log.{move_said, moves_said}
use Rattle.movelog.specs.Replay.{ReplayAnswer, replay_on, replay_for}
use Rattle.mover.specs.MoveTried.{MoveTried}
use Rattle.mover.proofs.Callers.{done_leaves, forbidden_leaves, done_ready}
use Rattle.replay.specs.Given.{MovesGiven}

-- the answer of a replay of which n moves were done before
abbrev resumed : ℕ → ReplayAnswer → ReplayAnswer
resumed n a = record { number = a.number; moves = a.moves + n; shown = a.shown }

-- what holds while the log is carried out
pub record Replaying (t : Track) (first : Position) (log : List ℕ) (p : Position) (done : ℕ) : Type 0 where
  pub ready : Ready t p
  pub same : resumed done (replay_for t p (moves_said (drop (2 * done) log))) ≡ replay_for t first (moves_said log)

-- the pair after so many moves, and what is left after it
next_pair : (log : List ℕ) (done : ℕ) → 2 * done + 1 < length log
    → moves_said (drop (2 * done) log) ≡ move_said (get_or log (2 * done) 0) (get_or log (2 * done + 1) 0) ∷ moves_said (drop (2 * (done + 1)) log)
unfolding moves_said
next_pair log done h = ap moves_said (one ∙ ap (λ (l : List ℕ). get_or log (2 * done) 0 ∷ l) two)
  where
    one : drop (2 * done) log ≡ get_or log (2 * done) 0 ∷ drop (2 * done + 1) log
    one = drop-cons log (2 * done) 0 (omega arith) ∙ ap (λ (n : ℕ). get_or log (2 * done) 0 ∷ drop n log) (let e : suc (2 * done) ≡ 2 * done + 1 = omega arith in e)

    two : drop (2 * done + 1) log ≡ get_or log (2 * done + 1) 0 ∷ drop (2 * (done + 1)) log
    two = drop-cons log (2 * done + 1) 0 h ∙ ap (λ (n : ℕ). get_or log (2 * done + 1) 0 ∷ drop n log) (let e : suc (2 * done + 1) ≡ 2 * (done + 1) = omega arith in e)

no_pair : (l : List ℕ) → length l ≤ 1 → moves_said l ≡ []
unfolding moves_said
no_pair [] h = refl
no_pair (c ∷ []) h = refl
no_pair (c ∷ w ∷ l) h = absurd (omega arith)

module _ {t : Track} {first : Position} {log : List ℕ} {p : Position} {done : ℕ} (g : Replaying t first log p done) where
  module _ {b : Bool} {q : Position} (pair : 2 * done + 1 < length log) (tried : MoveTried t p (move_said (get_or log (2 * done) 0) (get_or log (2 * done + 1) 0)) b q) where
    abbrev move : Move
    move = move_said (get_or log (2 * done) 0) (get_or log (2 * done + 1) 0)

    abbrev rest : Position → ReplayAnswer
    rest r = replay_for t r (moves_said (drop (2 * (done + 1)) log))

    -- the whole by what the move leaves
    by_move : (o : Option Position) → after_move t p move ≡ o → resumed done (replay_on p o rest) ≡ replay_for t first (moves_said log)
    unfolding replay_for
    by_move o e = ap (λ (x : Option Position). resumed done (replay_on p x rest)) (sym e) ∙ ap (λ (ms : List Move). resumed done (replay_for t p ms)) (sym (next_pair log done pair)) ∙ g.same

    pub stops : b ≡ false → MovesGiven (replay_for t first (moves_said log)) 38 done q
    stops e =
        let f = forbidden_leaves tried e in
        let whole = by_move none f.0 in
        record {
          number_is = ap (λ (a : ReplayAnswer). a.number) whole;
          moves_is = (let z : done ≡ 0 + done = omega arith in z) ∙ ap (λ (a : ReplayAnswer). a.moves) whole;
          position_is = f.1 ∙ ap (λ (a : ReplayAnswer). a.shown) whole;
        }

    pub goes_on_lem : b ≡ true → Replaying t first log q (done + 1)
    goes_on_lem e =
        record {
          ready = done_ready tried e g.ready;
          same =
              ap (λ (n : ℕ). record { number = (rest q).number; moves = n; shown = (rest q).shown }) (let z : (rest q).moves + (done + 1) ≡ suc (rest q).moves + done = omega arith in z)
              ∙ by_move (some q) (done_leaves tried e);
        }

  pub all_done : done ≡ length log / 2 → MovesGiven (replay_for t first (moves_said log)) 0 (length log / 2) p
  unfolding replay_for
  all_done e =
      let short : length (drop (2 * done) log) ≤ 1 = omega (arith, length-drop (2 * done) log) in
      let whole = ap (λ (ms : List Move). resumed done (replay_for t p ms)) (sym (no_pair (drop (2 * done) log) short)) ∙ g.same in
      record {
        number_is = ap (λ (a : ReplayAnswer). a.number) whole;
        moves_is = (let z : length log / 2 ≡ 0 + done = omega arith in z) ∙ ap (λ (a : ReplayAnswer). a.moves) whole;
        position_is = ap (λ (a : ReplayAnswer). a.shown) whole;
      }

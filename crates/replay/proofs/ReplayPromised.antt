-- How the replay on a board in bytes keeps its promise: on a refusal nothing is done, and otherwise the inner replay's answer is right, by the
-- theorem on the definition.
-- By the definition's three tests, and what the reader hands on; 0 and 38 are the numbers of no refusal.
use Prim.Native.Nat.{ℕ, ◌%◌, ◌≤◌}
use mathlib.Core.List.{List}
use mathlib.Core.Path.{◌≡◌, refl, sym, ap, ap₂, ◌∙◌, subst, subst₂}
use mathlib.Core.Logic.{◌⊎◌, inl, inr}
use native.Mathlib.Omega.{arith}
use lib.ListN.{length, take, drop}
use lib.Seq.{take_at, drop_at}
use Rattle.model.specs.Lists.{overwritten}
use Rattle.model.specs.Track.{Track}
use Rattle.model.specs.Position.{Position}
use Rattle.model.specs.Accepted.{Laid, Ready}
use Rattle.model.specs.Reading.{refusal, track_said, position_said}
use Rattle.model.proofs.ReadingLaws.{refusal_small, if_accepted, if_refused}
use Rattle.movelog.specs.Log.{moves_said}
use Rattle.movelog.specs.Replay.{ReplayAnswer, replay_for, replay_refused, replay_in, replay_of}
use Rattle.movelog.specs.ReplayRight.{ReplayRight}
use Rattle.movelog.proofs.ReplayMet.{replay_right}
use Rattle.board.specs.OnBoard.{OnBoard}
use Rattle.replay.specs.Given.{ReplayGiven}
use Rattle.replay.specs.Operation.{Replayable, ReplayPromise}
use Rattle.replay.proofs.ReplayLaws.{in_whole, in_cases, shown_each}

module _ (b log : List ℕ) (room : ℕ) where
  of_refused : (refusal b ≡ 0 → ⊥) → replay_of b log room ≡ replay_refused (refusal b)
  unfolding replay_of
  of_refused = if_refused b _ _

  of_read : refusal b ≡ 0 → replay_of b log room ≡ replay_in (track_said b) (position_said b) log room
  unfolding replay_of
  of_read = if_accepted b _ _

-- a refused board

pub replay_turned_back : (b log sheet : List ℕ) {number : ℕ} → (refusal b ≡ 0 → ⊥) → number ≡ refusal b → ReplayPromise b log sheet number 0 sheet
replay_turned_back b log sheet {number} n m =
    let a = of_refused b log (length sheet) n in
    record {
      given = record { number_is = rw a m; moves_is = rw a; sheet_is = rw a };
      past = refl;
      right = λ d. absurd (n d.accepted);
      limited = λ d. absurd (n d.accepted);
      only = λ o. absurd (other o);
    }
  where
    other : (number ≡ 0) ⊎ (number ≡ 38) → ⊥
    other (inl z) = n (sym m ∙ z)
    other (inr z) = omega (arith, m, refusal_small b)

-- an accepted board

module _ (t : Track) (p : Position) (log : List ℕ) (room : ℕ) where
  -- what is written has no word or one a zone, so past the zones the sheet is as lent
  past_lent : Laid t p → (sheet : List ℕ) → drop t.zones (overwritten (replay_in t p log room).shown sheet) ≡ drop t.zones sheet
  past_lent laid sheet =
      in_cases t p log room (λ a. drop t.zones (overwritten a.shown sheet) ≡ drop t.zones sheet) refl refl
      (λ _ _. let each = shown_each log laid in drop_at (replay_for t p (moves_said log)).shown _ t.zones each ∙ ap (λ (n : ℕ). drop n sheet) each)

  only_whole : ((replay_in t p log room).number ≡ 0) ⊎ ((replay_in t p log room).number ≡ 38) → (t.zones ≤ room) × (length log % 2 ≡ 0)
  only_whole =
      in_cases t p log room (λ a. (a.number ≡ 0) ⊎ (a.number ≡ 38) → (t.zones ≤ room) × (length log % 2 ≡ 0))
      (other 36 (λ z. omega arith) (λ z. omega arith)) (other 37 (λ z. omega arith) (λ z. omega arith)) (λ h e _. (h, e))
    where
      other : (n : ℕ) → (n ≡ 0 → ⊥) → (n ≡ 38 → ⊥) → (n ≡ 0) ⊎ (n ≡ 38) → (t.zones ≤ room) × (length log % 2 ≡ 0)
      other n a b (inl z) = absurd (a z)
      other n a b (inr z) = absurd (b z)

-- what is right of the moves' answer is right of what is shown on the sheet
shown_right : {t : Track} {p : Position} (log sheet : List ℕ) {sheet' : List ℕ} {number moves : ℕ} → Laid t p → t.zones ≤ length sheet → length log % 2 ≡ 0
    → ReplayGiven (replay_in t p log (length sheet)) sheet number moves sheet' → ReplayRight t p (moves_said log) number moves (take t.zones sheet')
shown_right {t} {p} log sheet {sheet'} laid room even given =
    let a = in_whole t p log (length sheet) room even in
    let written = given.sheet_is ∙ ap (λ (x : ReplayAnswer). overwritten x.shown sheet) a in
    let shown = ap (take t.zones) written ∙ take_at (replay_for t p (moves_said log)).shown _ t.zones (shown_each log laid) in
    rw (shown, given.number_is ∙ ap (λ (x : ReplayAnswer). x.number) a, given.moves_is ∙ ap (λ (x : ReplayAnswer). x.moves) a) (replay_right t p (moves_said log) laid)

-- the inner replay's answer on what was read
pub replay_promised : {b log sheet sheet' : List ℕ} {t : Track} {p : Position} {number moves : ℕ} → OnBoard b t p
    → ReplayGiven (replay_in t p log (length sheet)) sheet number moves sheet' → ReplayPromise b log sheet number moves sheet'
replay_promised {b} {log} {sheet} {sheet'} {number = number} {moves} on given =
    let t = track_said b in
    let p = position_said b in
    let ready = subst₂ Ready on.track on.position on.ready in
    let laid = ready.bounded.laid in
    let same = ap₂ (λ (u : Track) (q : Position). replay_in u q log (length sheet)) on.track on.position in
    let inner : ReplayGiven (replay_in t p log (length sheet)) sheet number moves sheet' = subst (λ (a : ReplayAnswer). ReplayGiven a sheet number moves sheet') same given in
    record {
      given = subst (λ (a : ReplayAnswer). ReplayGiven a sheet number moves sheet') (sym (of_read b log (length sheet) on.accepted)) inner;
      past = ap (drop t.zones) inner.sheet_is ∙ past_lent t p log (length sheet) laid sheet;
      right = λ d. shown_right log sheet laid d.room d.pairs inner;
      limited = λ d. (shown_right log sheet laid d.room d.pairs inner).limited ready.limited;
      only = λ o. whole (only_whole t p log (length sheet) (by inner.number_is o));
    }
  where
    by : {n : ℕ} → number ≡ n → (number ≡ 0) ⊎ (number ≡ 38) → (n ≡ 0) ⊎ (n ≡ 38)
    by e (inl z) = inl (sym e ∙ z)
    by e (inr z) = inr (sym e ∙ z)

    whole : ((track_said b).zones ≤ length sheet) × (length log % 2 ≡ 0) → Replayable b log (length sheet)
    whole h = record { accepted = on.accepted; room = h.0; pairs = h.1 }

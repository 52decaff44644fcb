-- What the replay on a track and a position gives: 36 where the sheet is short, 37 where the log is odd, else the answer of its moves, shown on the
-- sheet from its start.
-- Each case of the definition by its tests. What is shown has one word a zone, so past the zones the sheet stays as it was.
use Prim.Native.Nat.{ℕ, ◌%◌, ◌≤◌, ◌<◌}
use mathlib.Core.List.{List, ◌++◌}
use mathlib.Core.Path.{◌≡◌, refl, sym, ap, ap₂, subst}
use mathlib.Core.Bool.{Bool, true, false, cond, not}
use lib.ListN.{length, drop}
use lib.Dec.{ltb, eqb}
use borrow.Author.Tests.{lt-ltb, le-ltb, eq-eqb, ne_eqb, ltb-true, ltb-false, eqb-true, eqb-false}
use Rattle.model.specs.Track.{Track}
use Rattle.model.specs.Position.{Position}
use Rattle.model.specs.Accepted.{Laid, Ready}
use Rattle.movelog.specs.Log.{moves_said}
use Rattle.movelog.specs.Replay.{ReplayAnswer, replay_for, replay_refused, replay_in}
use Rattle.movelog.proofs.ReplayMet.{replay_right}
use Rattle.replay.specs.Given.{MovesGiven, ReplayGiven}

module _ (t : Track) (p : Position) (log : List ℕ) (room : ℕ) where
  by_tests : Bool → Bool → ReplayAnswer
  by_tests short even = cond short (replay_refused 36) (cond (not even) (replay_refused 37) (replay_for t p (moves_said log)))

  in_short : room < t.zones → replay_in t p log room ≡ replay_refused 36
  unfolding replay_in by_tests
  in_short h = ap (λ (x : Bool). by_tests x (eqb (length log % 2) 0)) (lt-ltb room t.zones h)

  in_odd : t.zones ≤ room → (length log % 2 ≡ 0 → ⊥) → replay_in t p log room ≡ replay_refused 37
  unfolding replay_in by_tests
  in_odd h n = ap₂ by_tests (le-ltb room t.zones h) (ne_eqb (length log % 2) 0 n)

  pub in_whole : t.zones ≤ room → length log % 2 ≡ 0 → replay_in t p log room ≡ replay_for t p (moves_said log)
  unfolding replay_in by_tests
  in_whole h e = ap₂ by_tests (le-ltb room t.zones h) (eq-eqb (length log % 2) 0 e)

  -- what holds on 36, on 37 and of the moves' answer holds of the replay
  pub in_cases : (P : ReplayAnswer → Type 0) → P (replay_refused 36) → P (replay_refused 37)
      → (t.zones ≤ room → length log % 2 ≡ 0 → P (replay_for t p (moves_said log))) → P (replay_in t p log room)
  in_cases P short odd whole = go (ltb room t.zones) refl (eqb (length log % 2) 0) refl
    where
      go : (x : Bool) → ltb room t.zones ≡ x → (y : Bool) → eqb (length log % 2) 0 ≡ y → P (replay_in t p log room)
      go true e y f = subst P (sym (in_short (ltb-true room t.zones e))) short
      go false e false f = subst P (sym (in_odd (ltb-false room t.zones e) (eqb-false (length log % 2) 0 f))) odd
      go false e true f = let h = ltb-false room t.zones e in let even = eqb-true (length log % 2) 0 f in subst P (sym (in_whole h even)) (whole h even)

module _ (t : Track) (p : Position) (log sheet : List ℕ) where
  pub short_given : length sheet < t.zones → ReplayGiven (replay_in t p log (length sheet)) sheet 36 0 sheet
  short_given h = let e = in_short t p log (length sheet) h in record { number_is = rw e; moves_is = rw e; sheet_is = rw e }

  pub odd_given : t.zones ≤ length sheet → (length log % 2 ≡ 0 → ⊥) → ReplayGiven (replay_in t p log (length sheet)) sheet 37 0 sheet
  odd_given h n = let e = in_odd t p log (length sheet) h n in record { number_is = rw e; moves_is = rw e; sheet_is = rw e }

-- what is shown has one word a zone
pub shown_each : {t : Track} {p : Position} (log : List ℕ) → Laid t p → length (replay_for t p (moves_said log)).shown ≡ t.zones
shown_each {t} {p} log laid = (replay_right t p (moves_said log) laid).laid.each

-- the moves on the sheet's first words, which were the position
pub moves_given : {t : Track} {p shown : Position} (log sheet : List ℕ) {number moves : ℕ} {q : Position} → Ready t p → shown ≡ p → t.zones ≤ length sheet → length log % 2 ≡ 0
    → MovesGiven (replay_for t shown (moves_said log)) number moves q → ReplayGiven (replay_in t p log (length sheet)) sheet number moves (q ++ drop t.zones sheet)
moves_given {t} {p} log sheet {number} {moves} {q} ready copied room even given =
    let e = in_whole t p log (length sheet) room even in
    let done = subst (λ (r : Position). MovesGiven (replay_for t r (moves_said log)) number moves q) copied given in
    record {
      number_is = rw e done.number_is;
      moves_is = rw e done.moves_is;
      sheet_is = rw e (ap₂ (λ (l : List ℕ) (n : ℕ). l ++ drop n sheet) done.position_is (sym (shown_each log ready.bounded.laid)));
    }

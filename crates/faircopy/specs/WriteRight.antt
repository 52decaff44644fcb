-- What is promised of a write in relations: when each number is given, and what is written on 0.
use Rattle.std.specs.Prelude.{ℕ, ◌≤◌, List, ◌≡◌, ◌⊎◌, ◌↔◌, length}
use Rattle.model.specs.Position.{Position, at, Once}
use Rattle.model.specs.Accepted.{Laid, Limited}
use Rattle.model.specs.Reading.{version_said, refusal, track_said, position_said}
use Rattle.faircopy.specs.BoardBytes.{copy_bytes}
use Rattle.faircopy.specs.FairCopy.{AllFit, SomeOver, FairCopy, Enough}

-- the call meets none of 1 to 9 and 39
pub record Fits (b : List ℕ) (sheet : Position) (copyRoom : ℕ) : Type 0 where
  pub accepted : refusal b ≡ 0
  pub each : length sheet ≡ (track_said b).zones
  pub limited : Limited sheet
  pub room : Enough (track_said b) sheet copyRoom

-- what the numbers of a write mean
pub record NumbersRight (b : List ℕ) (sheet : Position) (copyRoom number : ℕ) : Type 0 where
  -- 1 to 9 of the board come first, then 39
  pub refused : (refusal b ≡ 0 → ⊥) → number ≡ refusal b
  pub unwritable : refusal b ≡ 0 → (number ≡ 39) ↔ (Fits b sheet copyRoom → ⊥)
  -- then the number is the copy's refusal, of which only 6 and 7 are left: 8 and 9 don't depend on carriers
  pub tested : Fits b sheet copyRoom → number ≡ refusal (copy_bytes (track_said b) sheet)
  pub numbers : Fits b sheet copyRoom → (number ≡ 0) ⊎ (number ≡ 6) ⊎ (number ≡ 7)
  -- 0 exactly where the sheet is laid on the track; 6 exactly where a word says free with heading 1; 7 exactly where none does and some carrier
  -- stands in two zones
  pub zero : Fits b sheet copyRoom → (number ≡ 0) ↔ Laid (track_said b) sheet
  pub six : Fits b sheet copyRoom → (number ≡ 6) ↔ ((z : ℕ) × (at sheet z ≡ 1))
  pub seven : Fits b sheet copyRoom → (number ≡ 7) ↔ (((z : ℕ) → at sheet z ≡ 1 → ⊥) × (Once sheet → ⊥))
  -- 0, and with it a copy, on such calls alone
  pub only : number ≡ 0 → Fits b sheet copyRoom
  -- a board is written with its own position where as many bytes are lent as it has
  pub own : refusal b ≡ 0 → sheet ≡ position_said b → length b ≤ copyRoom → number ≡ 0
  -- 486 bytes are enough for every sheet
  pub ample : refusal b ≡ 0 → 486 ≤ copyRoom → Enough (track_said b) sheet copyRoom

-- an accepted board b written with its own position came out as c: byte for byte if it is in version 1 or has a carrier over 255; and if neither,
-- as the same board in version 1
pub record OwnPosition (b c : List ℕ) : Type 0 where
  pub back : (version_said b ≡ 1) ⊎ SomeOver (position_said b) → c ≡ b
  pub narrowed : version_said b ≡ 2 → AllFit (position_said b) → (version_said c ≡ 1) × (track_said c ≡ track_said b) × (position_said c ≡ position_said b)

-- what was written, c, on 0
pub record WrittenRight (b : List ℕ) (sheet : Position) (c : List ℕ) : Type 0 where
  -- it is a fair copy, and there is no other
  pub fair : FairCopy (track_said b) sheet c
  pub one : (d : List ℕ) → FairCopy (track_said b) sheet d → d ≡ c
  pub own : sheet ≡ position_said b → OwnPosition b c

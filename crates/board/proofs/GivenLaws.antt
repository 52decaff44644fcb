-- What the reader gives by its number, and how `read_into` meets it.
-- A list made long enough by zeros is the list again where it is cut.
use Prim.Native.Nat.{ℕ, ◌+◌, ◌-◌, ◌≤◌}
use native.Mathlib.Omega.{arith}
use mathlib.Core.List.{List, ◌++◌}
use mathlib.Core.Path.{◌≡◌, refl, sym, ◌∙◌, ap}
use mathlib.Core.Bool.{Bool, true, false, cond}
use lib.ListN.{length, take, replicate, length-append, length-replicate}
use lib.Seq.{take-append_seam}
use lib.Dec.{eqb}
use borrow.Author.Tests.{eq-eqb, ne_eqb, eqb-true}
use Rattle.model.specs.Reading.{Whole, zones_said, track_said, position_said, refusal}
use Rattle.model.proofs.ReadingLaws.{no_row, in_range}
use Rattle.board.proofs.Order.{whole}
use Rattle.board.specs.declared.refusal.Refusal.{Refusal}
use Rattle.board.specs.declared.refusal.Refusal.TheVariants.{TooShort, WrongLength, WrongVersion, OutOfRange, WrongCount, BadZone, CarrierTwice, LoosePoint, Apart}
use Rattle.board.specs.Refusals.{refusal_number}
use Rattle.board.specs.Given.{BoardRead, padded, head_said, board_said, board_refused, board_of}
use Rattle.board.specs.Inner.{ByteAt}

-- lists made longer by zeros

pub take_padded : (n k : ℕ) (l : List ℕ) → length l ≡ k → take k (padded n l) ≡ l
unfolding padded
take_padded n k l e = ap (λ (m : ℕ). take m (l ++ replicate (n - length l) 0)) (sym e) ∙ take-append_seam l (replicate (n - length l) 0)

pub length_padded : (n : ℕ) (l : List ℕ) → length l ≤ n → length (padded n l) ≡ n
unfolding padded
length_padded n l h = length-append l (replicate (n - length l) 0) ∙ ap (λ (m : ℕ). length l + m) (length-replicate (n - length l) 0) ∙ omega arith

-- what the reader gives by its number

pub given_refused : (b : List ℕ) → (refusal b ≡ 0 → ⊥) → board_of b ≡ board_refused (refusal b)
unfolding board_of
given_refused b n = ap (λ (t : Bool). cond t (board_said b) (board_refused (refusal b))) (ne_eqb (refusal b) 0 n)

pub given_said : (b : List ℕ) → refusal b ≡ 0 → board_of b ≡ board_said b
unfolding board_of
given_said b e = ap (λ (t : Bool). cond t (board_said b) (board_refused (refusal b))) (eq-eqb (refusal b) 0 e)

pub given_number : (b : List ℕ) → (board_of b).number ≡ refusal b
unfolding board_of board_said board_refused
given_number b = go (eqb (refusal b) 0) refl
  where
    go : (t : Bool) → eqb (refusal b) 0 ≡ t → (cond t (board_said b) (board_refused (refusal b))).number ≡ refusal b
    go true e = sym (eqb-true (refusal b) 0 e)
    go false e = refl

-- how `read_into` meets it

-- a refusal's number isn't 0
pub number_positive : (r : Refusal) → refusal_number r ≡ 0 → ⊥
number_positive TooShort e = omega arith
number_positive WrongLength e = omega arith
number_positive WrongVersion e = omega arith
number_positive OutOfRange e = omega arith
number_positive WrongCount e = omega arith
number_positive BadZone e = omega arith
number_positive CarrierTwice e = omega arith
number_positive LoosePoint e = omega arith
number_positive Apart e = omega arith

module _ (b : List ℕ) where
  pub refused_is : (r : Refusal) → refusal_number r ≡ refusal b → board_refused (refusal_number r) ≡ board_of b
  refused_is r N = ap board_refused N ∙ sym (given_refused b (λ e. number_positive r (N ∙ e)))

  module _ (N : 0 ≡ refusal b) where
    pub few_zones : zones_said b ≤ 96
    few_zones = (in_range b (no_row b (sym N)).range).zones_most

    pub whole_read : Whole b
    whole_read = let r = no_row b (sym N) in whole b r.length_said_lem r.zone_count

    pub said_is : {p h z : ℕ} {e s : List ℕ} → ByteAt b 3 p → ByteAt b 4 h → ByteAt b 5 z → e ≡ padded 192 (track_said b).ends → s ≡ padded 96 (position_said b)
        → ◌≡◌ {A = BoardRead} (record { number = 0; head = record { points = p; home = h; zones = z }; ends = e; position = s }) (board_of b)
    unfolding board_said head_said
    said_is P H Z E S = (λ i. record { number = 0; head = record { points = P.is i; home = H.is i; zones = Z.is i }; ends = E i; position = S i }) ∙ sym (given_said b (sym N))

-- How the collapse of a board in bytes keeps its promise: on a refusal nothing is written, and otherwise what the inner collapse gives
-- is the key's list. Number 0 tells that the carriers left were written, and those are the carriers that the key names.
use Prim.Native.Nat.{ℕ, ◌≤◌}
use mathlib.Core.List.{List, [], Memᴰ}
use mathlib.Core.Path.{◌≡◌, sym, ap, ◌∙◌, subst, subst₂}
use mathlib.Core.Bool.{true}
use mathlib.Core.Logic.{◌↔◌, ⊎_elim}
use native.Mathlib.Omega.{arith}
use lib.ListN.{length, take}
use lib.Dec.{ltb}
use borrow.Author.Tests.{ltb-true, ltb-false}
use Rattle.model.proofs.BoolLaws.{decided}
use Rattle.model.specs.Lists.{Ascending}
use Rattle.model.specs.Track.{Track}
use Rattle.model.specs.Position.{Position, outs}
use Rattle.model.specs.Reading.{refusal, track_said, position_said}
use Rattle.rules.specs.Routes.{Blocked}
use Rattle.rules.specs.Key.{KeyAnswer, key_for_by, named}
use Rattle.rules.specs.Collapse.{CollapseAnswer, collapse_in, collapse_of}
use Rattle.order.proofs.Named.{named_iff_blocked, named_ascending}
use Rattle.demands.specs.Demands.{NamedRight}
use Rattle.demands.proofs.NamedMet.{named_right}
use Rattle.board.specs.OnBoard.{OnBoard}
use Rattle.model.specs.Accepted.{Ready}
use Rattle.exam.specs.Parsed.{CollapseGiven}
use Rattle.exam.specs.Operations.{CollapsePromise}
use Rattle.exam.proofs.CollapseLaws.{collapse_short, named_counted, named_written}
use Rattle.exam.proofs.KeyLaws.{key_drawn}
use Rattle.model.proofs.ReadingLaws.{if_accepted, if_refused}

module _ (b : List ℕ) (room : ℕ) where
  collapse_refused_board : (refusal b ≡ 0 → ⊥) → collapse_of b room ≡ record { number = refusal b; list = [] }
  unfolding collapse_of
  collapse_refused_board = if_refused b _ _

  collapse_read_board : refusal b ≡ 0 → collapse_of b room ≡ collapse_in (track_said b) (position_said b) room
  unfolding collapse_of
  collapse_read_board = if_accepted b _ _

-- number 0 tells that the list was long enough
long_enough : (t : Track) (p : Position) {list list' : List ℕ} {number listed : ℕ} → CollapseGiven (collapse_in t p (length list)) list number listed list' → number ≡ 0 → length (outs p) ≤ length list
long_enough t p {list} {number = number} given zero = ⊎_elim short (ltb-false (length list) (length (outs p))) (decided (ltb (length list) (length (outs p))))
  where
    short : ltb (length list) (length (outs p)) ≡ true → length (outs p) ≤ length list
    short h =
        let e = ap (λ (a : CollapseAnswer). a.number) (collapse_short t p (length list) (ltb-true (length list) (length (outs p)) h)) in
        absurd (omega (arith, given.number_is))

pub collapse_turned_back : (b list : List ℕ) {number : ℕ} → (refusal b ≡ 0 → ⊥) → number ≡ refusal b → CollapsePromise b list number 0 list
collapse_turned_back b list n m =
    let a = collapse_refused_board b (length list) n in
    record {
      given = record { number_is = rw a m; listed_is = rw a; list_is = rw a };
      same = λ k. absurd (n (sym m ∙ k));
      same_count = λ k. absurd (n (sym m ∙ k));
      blocked = λ k. absurd (n (sym m ∙ k));
      ascending = λ k. absurd (n (sym m ∙ k));
      named = λ k. absurd (n (sym m ∙ k));
    }

promised : (b : List ℕ) {list list' : List ℕ} {number listed : ℕ} → refusal b ≡ 0 → Ready (track_said b) (position_said b) → CollapseGiven (collapse_in (track_said b) (position_said b) (length list)) list number listed list' → CollapsePromise b list number listed list'
unfolding key_for_by
promised b {list} {list'} {number} {listed} none ready given =
    record {
      given = subst (λ (a : CollapseAnswer). CollapseGiven a list number listed list') (sym (collapse_read_board b (length list) none)) given;
      same = λ zero planRoom listRoom drawn. written zero ∙ sym (ap (λ (k : KeyAnswer). k.list) (key_drawn b planRoom listRoom drawn));
      same_count = λ zero planRoom listRoom drawn. named_counted ready given (long zero) ∙ sym (ap (λ (k : KeyAnswer). length k.list) (key_drawn b planRoom listRoom drawn));
      blocked = λ zero. of_named (λ (l : List ℕ). (c : ℕ) → Memᴰ c l ↔ Blocked (track_said b) (position_said b) c) (named_iff_blocked (track_said b) (position_said b) ready.bounded.laid) zero;
      ascending = of_named Ascending (named_ascending (track_said b) (position_said b) ready.bounded.laid);
      named = of_named (NamedRight (track_said b) (position_said b)) (named_right (track_said b) (position_said b) ready.bounded.laid);
    }
  where
    long : number ≡ 0 → length (outs (position_said b)) ≤ length list
    long zero = long_enough (track_said b) (position_said b) given zero

    written : number ≡ 0 → take listed list' ≡ named (track_said b) (position_said b)
    written zero = named_written ready given (long zero)

    -- so what holds of the named carriers holds of what was written
    of_named : (P : List ℕ → Type 0) → P (named (track_said b) (position_said b)) → number ≡ 0 → P (take listed list')
    of_named P h zero = subst P (sym (written zero)) h

-- the inner collapse's answer on what was read
pub collapse_promised : {b list list' : List ℕ} {t : Track} {p : Position} {number listed : ℕ} → OnBoard b t p → CollapseGiven (collapse_in t p (length list)) list number listed list' → CollapsePromise b list number listed list'
collapse_promised {b} {list} {list'} {number = number} {listed} on given =
    promised b on.accepted (subst₂ Ready on.track on.position on.ready)
    (subst₂ (λ (t : Track) (p : Position). CollapseGiven (collapse_in t p (length list)) list number listed list') on.track on.position given)

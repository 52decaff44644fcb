-- How the key of a board in bytes keeps its promise: on a refusal nothing is written, and otherwise the inner key's answer is right,
-- by the theorems on the key's definition. A verdict that is neither 10 nor 11 tells that the plan and the list were written.
use Prim.Native.Nat.{ℕ, ◌≤◌}
use mathlib.Core.List.{List}
use mathlib.Core.Path.{◌≡◌, sym, ap, ◌∙◌, subst, subst₂}
use mathlib.Core.Logic.{◌↔◌}
use mathlib.Core.Bool.{Bool, true, false, cond}
use native.Mathlib.Omega.{arith}
use lib.ListN.{length, take, drop}
use lib.Seq.{take_at}
use Rattle.model.specs.Lists.{overwritten}
use Rattle.model.specs.declared.Summary.{Summary}
use Rattle.model.specs.Track.{Track}
use Rattle.model.specs.Position.{Position}
use Rattle.model.specs.Reading.{refusal, track_said, position_said}
use Rattle.rules.specs.Routes.{Blocked}
use Rattle.rules.specs.Key.{KeyAnswer, turns_back, named, key_for, key_for_by, key_in, key_of}
use Rattle.rules.specs.SearchCount.{searched}
use Rattle.searchcount.specs.Rounds.{Counted, most_searched, SearchCount}
use Rattle.searchcount.proofs.Count.{search_count}
use Rattle.alone.specs.HowManyBlocked.{TwoBlocked}
use Rattle.alone.proofs.NeverOne.{never_one, some_is_two}
use Rattle.demands.specs.Demands.{KeyRight, NamedRight}
use Rattle.demands.proofs.KeyMet.{key_right}
use Rattle.demands.proofs.NamedMet.{named_right}
use Rattle.board.specs.OnBoard.{OnBoard}
use Rattle.model.specs.Accepted.{Ready}
use Rattle.exam.specs.Parsed.{KeyGiven, summary_of, searched_of}
use Rattle.exam.specs.Operations.{Drawn, KeyPromise}
use Rattle.exam.proofs.KeyLaws.{verdict_goes, refused_turns_back, key_refused, key_read, key_drawn}
use Rattle.model.proofs.ReadingLaws.{accepted_track}

module _ (b : List ℕ) (n : refusal b ≡ 0 → ⊥) {number : ℕ} (m : number ≡ refusal b) where
  -- what is said of a board that is turned back
  pub summary_turned_back : ◌≡◌ {A = Summary} (record { points = 0; zones = 0; out = 0 }) (summary_of (track_said b) (position_said b) number)
  summary_turned_back = rw (ap turns_back m ∙ refused_turns_back b n)

  pub key_turned_back : (plan list : List ℕ) → KeyPromise b plan list number 0 0 0 plan list
  key_turned_back plan list =
      let a = key_refused b (length plan) (length list) n in
      record {
        given = record { verdict_is = rw a m; planned_is = rw a; listed_is = rw a; plan_is = rw a; list_is = rw a };
        right = λ d. absurd (n d.accepted);
        named = λ d. absurd (n d.accepted);
        never_one = λ k. absurd (n k);
        two_blocked = λ d. absurd (n d.accepted);
        searched_is = rw (ap turns_back m ∙ refused_turns_back b n);
        counted = λ d. absurd (n d.accepted);
        most = omega arith;
      }

-- what was written is read back by its length
pub read_back : (written lent : List ℕ) {n : ℕ} {l : List ℕ} → n ≡ length written → l ≡ overwritten written lent → take n l ≡ written
read_back written lent {n} e f = ap (take n) f ∙ take_at written (drop (length written) lent) n (sym e)

-- what is right of an answer is right of what was written as the answer says
module _ (t : Track) (p : Position) {a : KeyAnswer} {plan list plan' list' : List ℕ} {verdict planned listed : ℕ} (given : KeyGiven a plan list verdict planned listed plan' list') where
  right_written : KeyRight t p a.verdict a.plan a.list → KeyRight t p verdict (take planned plan') (take listed list')
  right_written h =
      subst (λ (v : ℕ). KeyRight t p v (take planned plan') (take listed list')) (sym given.verdict_is)
      (subst₂ (KeyRight t p a.verdict) (sym (read_back a.plan plan given.planned_is given.plan_is)) (sym (read_back a.list list given.listed_is given.list_is)) h)

  named_written : NamedRight t p a.list → NamedRight t p (take listed list')
  named_written h = subst (NamedRight t p) (sym (read_back a.list list given.listed_is given.list_is)) h

promised : (b plan list : List ℕ) {plan' list' : List ℕ} {verdict planned listed n : ℕ} → refusal b ≡ 0 → Ready (track_said b) (position_said b)
    → KeyGiven (key_of b (length plan) (length list)) plan list verdict planned listed plan' list' → n ≡ searched_of (track_said b) (position_said b) verdict
    → KeyPromise b plan list verdict planned listed n plan' list'
unfolding key_for_by
promised b plan list {plan'} {list'} {verdict} {planned} {listed} {n} none ready given counts =
    record {
      given = given;
      right = right;
      named = λ d. named_written (track_said b) (position_said b) (drawn d) (named_right (track_said b) (position_said b) ready.bounded.laid);
      never_one = λ e. never_one (track_said b) (accepted_track b none) (position_said b) ready.bounded.laid;
      two_blocked = λ d. (λ v. two.0 ((right d).some_blocked.0 v), λ w. (right d).some_blocked.1 (two.1 w));
      searched_is = counts;
      counted = λ d. subst (Counted (track_said b) (position_said b)) (sym (counts ∙ ap (λ (x : Bool). cond x 0 (searched (track_said b) (position_said b))) (drawn_goes d))) count.counted;
      most = rw counts (most (turns_back verdict));
    }
  where
    drawn : Drawn b verdict → KeyGiven (key_for (track_said b) (position_said b)) plan list verdict planned listed plan' list'
    drawn d =
        subst (λ (a : KeyAnswer). KeyGiven a plan list verdict planned listed plan' list')
        (key_drawn b (length plan) (length list) (subst (Drawn b) given.verdict_is d)) given

    count : SearchCount (track_said b) (position_said b)
    count = search_count (track_said b) (position_said b) ready.bounded.laid

    drawn_goes : Drawn b verdict → turns_back verdict ≡ false
    drawn_goes d = ap turns_back (drawn d).verdict_is ∙ verdict_goes (named (track_said b) (position_said b))

    most : (x : Bool) → cond x 0 (searched (track_said b) (position_said b)) ≤ most_searched (track_said b) (position_said b)
    most true = omega arith
    most false = count.most

    right : Drawn b verdict → KeyRight (track_said b) (position_said b) verdict (take planned plan') (take listed list')
    right d = right_written (track_said b) (position_said b) (drawn d) (key_right (track_said b) (position_said b) ready.bounded.laid)

    two : ((c : ℕ) × Blocked (track_said b) (position_said b) c) ↔ TwoBlocked (track_said b) (position_said b)
    two = some_is_two (track_said b) (accepted_track b none) (position_said b) ready.bounded.laid

-- the inner key's answer on what was read
module _ {b : List ℕ} {t : Track} {p : Position} (on : OnBoard b t p) where
  pub key_promised : {plan list plan' list' : List ℕ} {verdict planned listed n : ℕ}
      → KeyGiven (key_in t p (length plan) (length list)) plan list verdict planned listed plan' list' → n ≡ searched_of t p verdict
      → KeyPromise b plan list verdict planned listed n plan' list'
  key_promised {plan} {list} {plan'} {list'} {verdict} {planned} {listed} {n} given counts =
      promised b plan list on.accepted (subst₂ Ready on.track on.position on.ready)
      (subst (λ (a : KeyAnswer). KeyGiven a plan list verdict planned listed plan' list') (sym (key_read b (length plan) (length list) on.accepted))
      (subst₂ (λ (t : Track) (p : Position). KeyGiven (key_in t p (length plan) (length list)) plan list verdict planned listed plan' list') on.track on.position given))
      (subst₂ (λ (t : Track) (p : Position). n ≡ searched_of t p verdict) on.track on.position counts)

  pub summary_promised : (verdict : ℕ) {said : Summary} → said ≡ summary_of t p verdict → said ≡ summary_of (track_said b) (position_said b) verdict
  summary_promised verdict {said} e = subst₂ (λ (t : Track) (p : Position). said ≡ summary_of t p verdict) on.track on.position e

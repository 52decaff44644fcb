-- How the key on a track and a position meets its contract: 10 and 11 write nothing; otherwise the plan is what was sent home, the
-- list is who is out then, the position has only those, and the search count is that of the sending. Who is still out after sending home is
-- named, and fits in the list.
use Prim.Native.Nat.{ℕ, ◌+◌, ◌*◌, ◌≤◌, ◌<◌}
use mathlib.Core.List.{List, ◌++◌}
use mathlib.Core.Path.{◌≡◌, sym, ap, ◌∙◌, subst}
use mathlib.Core.Bool.{false}
use native.Mathlib.Omega.{arith}
use lib.ListN.{length, drop}
use Rattle.model.specs.Track.{Track}
use Rattle.model.specs.declared.Summary.{Summary}
use Rattle.model.specs.Position.{Position, only_left, outs}
use Rattle.rules.specs.Key.{named, named_by, verdict_of, turns_back, key_for, key_for_by, key_in}
use Rattle.order.proofs.Within.{Within}
use Rattle.order.proofs.OnlyLeft.{within_only}
use Rattle.order.proofs.Named.{last_within}
use Rattle.order.proofs.Sizes.{named_most}
use Rattle.carriers.specs.Listing.{Listable, Listed}
use Rattle.search.specs.declared.Sent.{Sent}
use Rattle.search.specs.Sending.{SentHome}
use Rattle.model.specs.Accepted.{Ready}
use Rattle.exam.specs.Parsed.{KeyGiven, summary_of, searched_of, position_left}
use Rattle.exam.proofs.KeyLaws.{verdict_goes, key_10, key_11, key_for_lem}
use Rattle.exam.proofs.ReadyLaws.{listable}

module _ (t : Track) (p : Position) (plan list : List ℕ) {out : ℕ} (counted : out ≡ length (outs p)) where
  pub given_10 : length plan < out * (2 + 2 * t.zones) → KeyGiven (key_in t p (length plan) (length list)) plan list 10 0 0 plan list
  given_10 h =
      let e = key_10 t p (length plan) (length list) (subst (λ (n : ℕ). length plan < n * (2 + 2 * t.zones)) counted h) in
      record { verdict_is = rw e; planned_is = rw e; listed_is = rw e; plan_is = rw e; list_is = rw e }

  pub given_11 : out * (2 + 2 * t.zones) ≤ length plan → length list < out → KeyGiven (key_in t p (length plan) (length list)) plan list 11 0 0 plan list
  given_11 h k =
      let e = key_11 t p (length plan) (length list) (subst (λ (n : ℕ). n * (2 + 2 * t.zones) ≤ length plan) counted h) (omega arith) in
      record { verdict_is = rw e; planned_is = rw e; listed_is = rw e; plan_is = rw e; list_is = rw e }

-- what rows 10 and 11 leave: room for the whole plan and the whole list
pub record Enough (zones : ℕ) (p : Position) (plan list : List ℕ) : Type 0 where
  pub for_plan : length (outs p) * (2 + 2 * zones) ≤ length plan
  pub for_list : length (outs p) ≤ length list

pub enough : {zones : ℕ} {p plan list : List ℕ} {out : ℕ} → out ≡ length (outs p) → out * (2 + 2 * zones) ≤ length plan → out ≤ length list → Enough zones p plan list
enough {zones} {p} {plan} counted h k = record { for_plan = subst (λ (n : ℕ). n * (2 + 2 * zones) ≤ length plan) counted h; for_list = omega arith }

module _ {t : Track} {p plan list : List ℕ} (room : Enough t.zones p plan list) where
  module _ {p' plan' : List ℕ} {answer : Sent} (sent : SentHome t p plan p' plan' answer) where
    outs_last : outs p' ≡ named t p
    unfolding named_by
    outs_last = ap outs sent.last

    sent_within : Ready t p → Within p' p
    sent_within ready = subst (λ (s : Position). Within s p) (sym sent.last) (last_within t p ready.bounded.laid)

    pub last_listable : Ready t p → Listable p' list
    last_listable ready = listable ready (sent_within ready) (omega (arith, ap length outs_last, named_most t p ready.bounded.laid, room.for_list))

    module _ {verdict listed : ℕ} {list' : List ℕ} (listing : Listed p' list listed list') (by_count : (blocked : List ℕ) → length blocked ≡ listed → verdict ≡ verdict_of blocked) where
      drawn : key_in t p (length plan) (length list) ≡ key_for t p
      drawn = key_for_lem t p (length plan) (length list) room.for_plan room.for_list

      says : verdict ≡ verdict_of (named t p)
      says = by_count (outs p') (sym listing.counted) ∙ ap verdict_of outs_last

      goes_on_lem : turns_back verdict ≡ false
      goes_on_lem = ap turns_back says ∙ verdict_goes (named t p)

      pub given_key : KeyGiven (key_in t p (length plan) (length list)) plan list verdict answer.planned listed plan' list'
      unfolding key_for_by
      given_key = record {
        verdict_is = rw drawn says;
        planned_is = rw drawn sent.planned;
        listed_is = rw drawn (listing.counted ∙ ap length outs_last);
        plan_is = rw drawn sent.written;
        list_is = rw drawn (listing.written ∙ ap (λ (l : List ℕ). l ++ drop (length l) list) outs_last);
      }

      pub given_summary : {out : ℕ} → out ≡ length (outs p) → ◌≡◌ {A = Summary} (record { points = t.points; zones = t.zones; out = out }) (summary_of t p verdict)
      given_summary {out} counted = (λ i. record { points = t.points; zones = t.zones; out = counted i }) ∙ rw goes_on_lem

      pub given_searched : answer.searched ≡ searched_of t p verdict
      given_searched = rw goes_on_lem sent.searched_is

      pub given_position : Ready t p → p' ≡ position_left verdict (key_in t p (length plan) (length list)).list p
      unfolding key_for_by
      given_position ready = rw (goes_on_lem, drawn) (within_only (sent_within ready) ready.bounded.laid ∙ ap (λ (l : List ℕ). only_left l p) outs_last)

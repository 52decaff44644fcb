-- What the collapse on a track and a position gives: 11 where the list is short, else the carriers left.
-- Each case of the definition by its test. What is left is what the key names, so it fits in the list.
use Prim.Native.Nat.{ℕ, ◌≤◌, ◌<◌}
use mathlib.Core.List.{List, [], ◌++◌}
use mathlib.Core.Path.{◌≡◌, sym, ap, ◌∙◌, subst}
use mathlib.Core.Bool.{Bool, cond}
use native.Mathlib.Omega.{arith}
use lib.ListN.{length, take, drop}
use lib.Seq.{take_at}
use borrow.Author.Tests.{lt-ltb, le-ltb}
use Rattle.model.specs.Track.{Track}
use Rattle.model.specs.Position.{Position, only_left, outs}
use Rattle.rules.specs.Collapse.{CollapseAnswer, collapse_in, left}
use Rattle.rules.specs.Key.{named}
use Rattle.order.proofs.Within.{Within}
use Rattle.order.proofs.OnlyLeft.{within_only}
use Rattle.order.proofs.Sizes.{named_most}
use Rattle.blocking.proofs.SameList.{collapse_same}
use Rattle.carriers.specs.Listing.{Listable, Listed}
use Rattle.parts.specs.Home.{Collapsed}
use Rattle.parts.proofs.TakenOff.{length_left}
use Rattle.parts.proofs.LeftCarriers.{left_cases}
use Rattle.model.specs.Accepted.{Ready}
use Rattle.exam.specs.Parsed.{CollapseGiven}
use Rattle.exam.proofs.ReadyLaws.{listable}

module _ (t : Track) (p : Position) (room : ℕ) where
  by_room : Bool → CollapseAnswer
  by_room b = cond b (record { number = 11; list = [] }) (record { number = 0; list = left t p })

  pub collapse_short : room < length (outs p) → collapse_in t p room ≡ record { number = 11; list = [] }
  unfolding collapse_in by_room
  collapse_short h = ap by_room (lt-ltb room (length (outs p)) h)

  pub collapse_long : length (outs p) ≤ room → collapse_in t p room ≡ record { number = 0; list = left t p }
  unfolding collapse_in by_room
  collapse_long h = ap by_room (le-ltb room (length (outs p)) h)

pub collapse_refused : (t : Track) (p : Position) (list : List ℕ) → length list < length (outs p) → CollapseGiven (collapse_in t p (length list)) list 11 0 list
collapse_refused t p list h =
    let e = collapse_short t p (length list) h in
    record { number_is = rw e; listed_is = rw e; list_is = rw e }

collapsed_within : {t : Track} {p q : Position} → Collapsed t p q → Within q p
collapsed_within {t} {p} collapsed =
    subst (λ (s : Position). Within s p) (sym collapsed.rest) (record { as_long = length_left t.ends collapsed.set p; kept = left_cases t.ends collapsed.set p })

module _ {t : Track} {p q : Position} (list : List ℕ) (collapsed : Collapsed t p q) (room : length (outs p) ≤ length list) where
  -- the carriers left can be listed
  pub collapse_listable : Ready t p → Listable q list
  collapse_listable ready =
      listable ready (collapsed_within collapsed)
      (omega (arith, ap length collapsed.carriers, ap length (collapse_same ready.bounded.laid), named_most t p ready.bounded.laid))

  -- the position has only those
  pub collapse_position : Ready t p → q ≡ only_left (collapse_in t p (length list)).list p
  collapse_position ready =
      within_only (collapsed_within collapsed) ready.bounded.laid ∙
      ap (λ (l : List ℕ). only_left l p) (collapsed.carriers ∙ sym (ap (λ (a : CollapseAnswer). a.list) (collapse_long t p (length list) room)))

  -- and their list is the collapse's answer
  pub collapse_given : {listed : ℕ} {list' : List ℕ} → Listed q list listed list' → CollapseGiven (collapse_in t p (length list)) list 0 listed list'
  collapse_given listing =
      let e = collapse_long t p (length list) room in
      record {
        number_is = rw e;
        listed_is = rw e (listing.counted ∙ ap length collapsed.carriers);
        list_is = rw e (listing.written ∙ ap (λ (l : List ℕ). l ++ drop (length l) list) collapsed.carriers);
      }

-- where the list is long enough, what was written is the key's list
module _ {t : Track} {p : Position} (ready : Ready t p) {list list' : List ℕ} {number listed : ℕ} (given : CollapseGiven (collapse_in t p (length list)) list number listed list') (room : length (outs p) ≤ length list) where
  answer : (collapse_in t p (length list)).list ≡ named t p
  answer = ap (λ (a : CollapseAnswer). a.list) (collapse_long t p (length list) room) ∙ collapse_same ready.bounded.laid

  pub named_counted : listed ≡ length (named t p)
  named_counted = given.listed_is ∙ ap length answer

  pub named_written : take listed list' ≡ named t p
  named_written = ap (take listed) given.list_is ∙ take_at (collapse_in t p (length list)).list _ listed (sym given.listed_is) ∙ answer

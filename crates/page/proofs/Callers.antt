-- What a caller of `write_key` shows, and which page a board in bytes has.
-- A caller knows the plan as the words of some entries; the sizes give the room.
use Prim.Native.Nat.{ℕ, ◌≤◌, ◌<◌}
use mathlib.Core.Path.{◌≡◌}
use mathlib.Core.List.{List}
use native.Mathlib.Nat.{le_trans}
use borrow.Author.Tests.{lt-ltb, le-ltb, eq-eqb, ne_eqb}
use lib.ListN.{length}
use Rattle.model.specs.declared.Summary.{Summary}
use Rattle.model.specs.Reading.{refusal, track_said, position_said}
use Rattle.model.proofs.ReadingLaws.{accepted_length}
use Rattle.rules.specs.Routes.{Entry}
use Rattle.rules.specs.Key.{plan_words}
use Rattle.page.specs.Page.{refused_page, too_long_page, page_for, page_of, AcceptedPage, LONGEST, PAGE}
use Rattle.page.specs.Writing.{Writable}
use Rattle.page.proofs.PlanLaws.{is_plan, entries_in_plan}
use Rattle.page.proofs.Bound.{SmallKey, key_page_fits}

-- `entries_in_plan es written` then turns what `write_key` ensures to these entries
pub writable : {summary : Summary} {verdict : ℕ} {plan list page : List ℕ} (es : List Entry) → plan ≡ plan_words es → SmallKey summary verdict es list → PAGE ≤ length page → Writable summary verdict plan list page
writable es written small long = record {
  is_plan = is_plan es written;
  room = rw (entries_in_plan es written) (le_trans (key_page_fits small) long);
}

module _ (b : List ℕ) where
  pub page_too_long : LONGEST < length b → page_of b ≡ too_long_page
  unfolding page_of
  page_too_long long = rw (lt-ltb LONGEST (length b) long)

  pub page_refused : length b ≤ LONGEST → (refusal b ≡ 0 → ⊥) → page_of b ≡ refused_page (refusal b)
  unfolding page_of
  page_refused short wrong = rw (le-ltb LONGEST (length b) short, ne_eqb (refusal b) 0 wrong)

  pub page_right : length b ≤ LONGEST → refusal b ≡ 0 → page_of b ≡ page_for (track_said b) (position_said b)
  unfolding page_of
  page_right short right = rw (le-ltb LONGEST (length b) short, eq-eqb (refusal b) 0 right)

pub page_accepted : AcceptedPage
page_accepted b right = page_right b (accepted_length b right) right

-- What `key_text` promises, for every board in bytes and whatever was lent: the page that `key` prints where PAGE bytes are lent, else nothing.
-- b are the board's bytes; page is what was lent, page' what it holds at exit.
use Rattle.std.specs.Prelude.{ℕ, ◌≤◌, ◌<◌, List, ◌≡◌, false, Option, None, Some, cond, length, take}
use Rattle.model.specs.Lists.{overwritten}
use Rattle.rules.specs.Key.{turns_back}
use Rattle.page.specs.Page.{key_page, refused_page, page_of, PAGE}
use Rattle.page.specs.Writing.{entries_in, IsPlan}
use Rattle.exam.specs.Answers.{KeyNumbers}

-- the page of a key's answer: of its refusal on 1 to 11, else of the words and carriers that were written to the start of what was lent
abbrev pub answer_page : KeyNumbers → List ℕ → List ℕ → List ℕ
answer_page answer plan list =
    cond (turns_back answer.verdict) (refused_page answer.verdict)
    (key_page answer.summary answer.verdict (entries_in (take answer.planned plan)) (take answer.listed list))

-- it can be written
pub record Answerable (answer : KeyNumbers) (plan list page : List ℕ) : Type 0 where
  pub planned : turns_back answer.verdict ≡ false → answer.planned ≤ length plan
  pub listed : turns_back answer.verdict ≡ false → answer.listed ≤ length list
  pub is_plan : turns_back answer.verdict ≡ false → IsPlan (take answer.planned plan)
  pub room : length (answer_page answer plan list) ≤ length page

-- the length of what is written
abbrev pub length_given : Option ℕ → ℕ
length_given None = 0
length_given (Some n) = n

pub record KeyText (b page : List ℕ) (r : ℕ) (page' : List ℕ) : Type 0 where
  -- no page is longer than PAGE bytes, so that many are always enough
  pub bound : length (page_of b) ≤ PAGE
  -- where fewer are lent, no length is given and nothing is written
  pub short_result : length page < PAGE → r ≡ 0
  pub short_page : length page < PAGE → page' ≡ page
  -- else the result is the page's length; it stands from the start of what was lent, and the rest stays as it was
  pub result : PAGE ≤ length page → r ≡ length (page_of b)
  pub written : PAGE ≤ length page → page' ≡ overwritten (page_of b) page

-- How a page is written: a text put over what stood in a lent buffer, from a place on; and the entries that a plan's words hold.
-- What the contracts cite besides the page itself.
use Rattle.std.specs.Prelude.{ℕ, zero, suc, ◌+◌, ◌≤◌, ◌≡◌, List, [], ◌∷◌, length, take, drop}
use Rattle.model.specs.declared.Summary.{Summary}
use Rattle.model.specs.Lists.{overwritten, overwritten_at}
use Rattle.rules.specs.Routes.{Entry}
use Rattle.rules.specs.Key.{plan_words}
use Rattle.page.specs.declared.writing.Writing.{Writing}
use Rattle.page.specs.Page.{key_page}

-- the text fits on the page from where the writing stands
pub record TextRoom (text : List ℕ) (w : Writing) : Type 0 where
  pub fits : w.at + length text ≤ length w.page.now

-- the text was put from there on, and the writing stands after it, on the same page
pub record Put (text : List ℕ) (before after : Writing) : Type 0 where
  pub written : after.page.now ≡ overwritten_at before.at text before.page.now
  pub place : after.at ≡ before.at + length text
  pub same_page : after.page.ghost_name ≡ before.page.ghost_name

-- nothing is written yet on the page that was lent
pub record Begun (page : List ℕ) (w : Writing) : Type 0 where
  pub as_lent : w.page.now ≡ page
  pub first : w.at ≡ 0

-- the page begins with the text, of n bytes, and past it stays as it was
pub record Begins (text before after : List ℕ) (n : ℕ) : Type 0 where
  pub written : after ≡ overwritten text before
  pub bytes : n ≡ length text

-- the entries that the words of a plan hold; there are no more entries than n
unfoldable pub entries_of : ℕ → List ℕ → List Entry
entries_of zero ws = []
entries_of (suc n) [] = []
entries_of (suc n) (c ∷ []) = []
entries_of (suc n) (c ∷ k ∷ ws) = record { carrier = c; words = take k ws } ∷ entries_of n (drop k ws)

abbrev pub entries_in : List ℕ → List Entry
entries_in ws = entries_of (length ws) ws

-- the words are those of a plan
abbrev pub IsPlan : List ℕ → Type 0
IsPlan ws = plan_words (entries_in ws) ≡ ws

-- what `write_key` is given: the words of a plan, and room for the page
pub record Writable (summary : Summary) (verdict : ℕ) (plan list page : List ℕ) : Type 0 where
  pub is_plan : IsPlan plan
  pub room : length (key_page summary verdict (entries_in plan) list) ≤ length page

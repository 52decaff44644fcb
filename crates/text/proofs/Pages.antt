-- What `key_text` gives where too few bytes are lent, where too many were read, and from the page that is written.
-- Each case by what the page's definition gives there (Callers of `page`).
use Prim.Native.Nat.{ℕ, ◌≤◌, ◌<◌}
use mathlib.Core.List.{List}
use mathlib.Core.Path.{◌≡◌, refl, sym, subst}
use mathlib.Core.Bool.{Bool, true, false}
use native.Mathlib.Omega.{arith}
use borrow.Author.Tests.{leb-true, leb-false}
use lib.ListN.{length}
use lib.Dec.{leb}
use Rattle.model.specs.Reading.{Bytes}
use Rattle.page.specs.Page.{too_long_page, page_of, LONGEST, PAGE}
use Rattle.page.specs.Writing.{Begins}
use Rattle.page.proofs.Callers.{page_too_long}
use Rattle.text.specs.Text.{KeyText}
use Rattle.text.proofs.Sizes.{page_fits}

-- what begins with a text begins with the page where that is the text
pub same_page : {text page before after : List ℕ} {n : ℕ} → page ≡ text → Begins text before after n → Begins page before after n
same_page {before = before} {after} {n} e begins = subst (λ (l : List ℕ). Begins l before after n) (sym e) begins

pub too_long_begun : (b : List ℕ) {before after : List ℕ} {n : ℕ} → LONGEST < length b → Begins too_long_page before after n → Begins (page_of b) before after n
too_long_begun b long = same_page (page_too_long b long)

module _ (b : List ℕ) (small : Bytes b) where
  pub too_few_lent : (page : List ℕ) → length page < PAGE → KeyText b page 0 page
  too_few_lent page short = record {
    bound = page_fits b small;
    short_result = λ h. refl;
    short_page = λ h. refl;
    result = λ room. absurd (omega arith);
    written = λ room. absurd (omega arith);
  }

  pub text_written : {page page' : List ℕ} {n : ℕ} → PAGE ≤ length page → Begins (page_of b) page page' n → KeyText b page n page'
  text_written room begins = record {
    bound = page_fits b small;
    short_result = λ short. absurd (omega arith);
    short_page = λ short. absurd (omega arith);
    result = λ h. begins.bytes;
    written = λ h. begins.written;
  }

-- what is given counts bytes of what was lent
pub text_within : {b page page' : List ℕ} {r : ℕ} → KeyText b page r page' → r ≤ length page
text_within {b} {page} {r = r} t = go (leb PAGE (length page)) refl
  where
    go : (x : Bool) → leb PAGE (length page) ≡ x → r ≤ length page
    go true e = omega (arith, t.result (leb-true PAGE (length page) e), t.bound, leb-true PAGE (length page) e)
    go false e = omega (arith, t.short_result (leb-false PAGE (length page) e))

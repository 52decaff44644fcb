-- What is printed for an input of which 487 bytes at most are read.
use Rattle.std.proofs.Common.{ℕ, ◌≤◌, ◌≡◌, length, List, [], ◌++◌, take, Option, None, Some, IfSome, refl, sym, ◌∙◌, ap, subst, arith, true, false, Bool}
use Rattle.std.proofs.lemmas.Bool.{ltb-true, ltb-false}
use Rattle.std.proofs.lemmas.List.{take_at, take_all, length-take-le}
use Rattle.std.proofs.Math.Dec.{ltb}
use Rattle.std.specs.Io.KnownBytes.{Appends}
use Rattle.std.specs.Option.{option_map}
use Rattle.page.specs.Page.{page_of, PAGE, LONGEST}
use Rattle.page.proofs.Callers.{page_too_long}
use Rattle.text.specs.Text.{KeyText, length_given}

-- 487 bytes tell that an input is too long
page_of-take : (b : List ℕ) → page_of (take 487 b) ≡ page_of b
page_of-take b = go (ltb LONGEST (length b)) refl
  where
    go : (x : Bool) → ltb LONGEST (length b) ≡ x → page_of (take 487 b) ≡ page_of b
    go true e =
        let long = ltb-true LONGEST (length b) e in
        page_too_long (take 487 b) (omega (arith, length-take-le 487 b (omega (arith, long)))) ∙ sym (page_too_long b long)
    go false e = ap page_of (take_all 487 b (omega (arith, ltb-false LONGEST (length b) e)))

-- what `key_text` wrote, as far as it says, is the page
take-written : {board page page' : List ℕ} {n : ℕ} → PAGE ≤ length page → KeyText board page n page' → take n page' ≡ page_of board
take-written {board} {n = n} room text = ap (take n) (text.written room) ∙ take_at (page_of board) _ n (sym (text.result room))

-- 487 bytes at most of what is known of the input are read, and what `key_text` wrote for them is added to the output: so the input's page is
pub page_appended : (known old new : Option (List ℕ)) {board page page' : List ℕ} {r : Option ℕ} {n : ℕ}
    → PAGE ≤ length page → KeyText board page (length_given r) page' → r ≡ Some n
    → IfSome (option_map (take 487) known) (λ xs. board ≡ [] ++ xs)
    → Appends old new (take n page')
    → IfSome known (λ b. Appends old new (page_of b))
page_appended None old new room text given read added = tt
page_appended (Some b) old new {board} {page} {page'} room text given read added =
    let whole = subst (λ (r : Option ℕ). KeyText board page (length_given r) page') given text in
    subst (λ (l : List ℕ). Appends old new l) (take-written room whole ∙ ap page_of read ∙ page_of-take b) added

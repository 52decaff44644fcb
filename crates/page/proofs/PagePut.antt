-- Whole pages put from the first place on, and the blocked list.
-- From the laws of texts put one after another.
use Prim.Native.Nat.{ℕ}
use mathlib.Core.Path.{◌≡◌, refl}
use mathlib.Core.List.{List, [], ◌∷◌}
use native.Mathlib.Omega.{arith}
use lib.ListN.{length}
use Rattle.model.specs.declared.Summary.{Summary}
use Rattle.rules.specs.Routes.{Entry}
use Rattle.page.specs.declared.writing.Writing.{Writing}
use Rattle.page.specs.Page.{spelled, decimal, labelled, spaced, entry_lines, blocked_text, first_lines, key_page, refused_page}
use Rattle.page.specs.Writing.{TextRoom}
use Rattle.page.proofs.PutLaws.{Putting, starts}

pub refused_starts : (number : ℕ) {w : Writing} → TextRoom (refused_page number) w → Putting (refused_page number) w (labelled (spelled "refused ") number ∷ spelled "\n" ∷ []) w
unfolding refused_page
refused_starts number room = starts (labelled (spelled "refused ") number ∷ spelled "\n" ∷ []) room

module _ (summary : Summary) (verdict : ℕ) where
  abbrev pub first_pieces : List (List ℕ)
  first_pieces =
      labelled (spelled "board ") summary.points ∷ labelled (spelled " points ") summary.zones ∷ labelled (spelled " zones ") summary.out ∷
      labelled (spelled " out\nverdict ") verdict ∷ spelled "\n" ∷ []

  pub first_starts : {w : Writing} → TextRoom (first_lines summary verdict) w → Putting (first_lines summary verdict) w first_pieces w
  unfolding first_lines
  first_starts room = starts first_pieces room

  module _ (es : List Entry) (blocked : List ℕ) where
    abbrev pub key_pieces : List (List ℕ)
    key_pieces = first_lines summary verdict ∷ entry_lines es ∷ spelled "blocked" ∷ blocked_text blocked ∷ spelled "\n" ∷ []

    pub key_starts : {w : Writing} → TextRoom (key_page summary verdict es blocked) w → Putting (key_page summary verdict es blocked) w key_pieces w
    unfolding key_page
    key_starts room = starts key_pieces room

pub blocked_none : (list : List ℕ) → length list ≡ 0 → blocked_text list ≡ spelled " none"
unfolding blocked_text
blocked_none [] e = refl
blocked_none (c ∷ cs) e = absurd (omega arith)

pub blocked_some : (list : List ℕ) → (length list ≡ 0 → ⊥) → blocked_text list ≡ spaced decimal list
unfolding blocked_text
blocked_some [] n = absurd (n refl)
blocked_some (c ∷ cs) n = refl

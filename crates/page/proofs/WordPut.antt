-- A word put: its zone as a number, and then + or -.
-- From the laws of texts put one after another.
use Prim.Native.Nat.{ℕ}
use mathlib.Core.Path.{◌≡◌}
use mathlib.Core.List.{List, [], ◌∷◌}
use mathlib.Core.Bool.{cond}
use borrow.Author.Tests.{eq-eqb, ne_eqb}
use lib.Dec.{eqb}
use Rattle.model.specs.Track.{zone_of, heading_of}
use Rattle.page.specs.declared.writing.Writing.{Writing}
use Rattle.page.specs.Page.{spelled, decimal, word_text}
use Rattle.page.specs.Writing.{TextRoom}
use Rattle.page.proofs.PutLaws.{Putting, starts}

abbrev sign : ℕ → List ℕ
sign word = cond (eqb (heading_of word) 0) (spelled "+") (spelled "-")

plus : (word : ℕ) → heading_of word ≡ 0 → sign word ≡ spelled "+"
plus word e = rw (eq-eqb (heading_of word) 0 e)

minus : (word : ℕ) → (heading_of word ≡ 0 → ⊥) → sign word ≡ spelled "-"
minus word e = rw (ne_eqb (heading_of word) 0 e)

module _ (word : ℕ) {w : Writing} where
  pub word_starts : TextRoom (word_text word) w → Putting (word_text word) w (decimal (zone_of word) ∷ sign word ∷ []) w
  unfolding word_text
  word_starts room = starts (decimal (zone_of word) ∷ sign word ∷ []) room

  pub plus_starts : heading_of word ≡ 0 → TextRoom (word_text word) w → Putting (word_text word) w (decimal (zone_of word) ∷ spelled "+" ∷ []) w
  plus_starts e room = rw (plus word e) at (word_starts room)

  pub minus_starts : (heading_of word ≡ 0 → ⊥) → TextRoom (word_text word) w → Putting (word_text word) w (decimal (zone_of word) ∷ spelled "-" ∷ []) w
  minus_starts e room = rw (minus word e) at (word_starts room)

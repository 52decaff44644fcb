-- The entries that a plan's words hold are those whose words they are; and the loop over a plan goes from entry to entry.
-- `entries_of` reads back what `plan_words` writes.
use Prim.Native.Nat.{ℕ, zero, suc, ◌-◌, ◌≤◌, ◌<◌}
use mathlib.Core.Path.{◌≡◌, refl, ap, ap₂, ◌∙◌}
use mathlib.Core.List.{List, [], ◌∷◌, ◌++◌}
use native.Mathlib.Omega.{arith}
use lib.ListN.{length, take, drop, get_or, length-append, length-drop}
use lib.Seq.{take-append_seam, drop-append_seam}
use Rattle.std.proofs.lemmas.List.{take_all}
use Rattle.rules.specs.Routes.{Entry}
use Rattle.rules.specs.Key.{plan_words}
use Rattle.page.specs.Writing.{entries_of, entries_in, IsPlan}

entries_read : (n : ℕ) (es : List Entry) → length es ≤ n → entries_of n (plan_words es) ≡ es
unfolding entries_of plan_words
entries_read zero [] h = refl
entries_read (suc n) [] h = refl
entries_read zero (e ∷ es) h = absurd (omega arith)
entries_read (suc n) (e ∷ es) h =
    ap₂ (λ (ws : List ℕ) (fs : List Entry). record { carrier = e.carrier; words = ws } ∷ fs)
    (take-append_seam e.words (plan_words es))
    (ap (entries_of n) (drop-append_seam e.words (plan_words es)) ∙ entries_read n es (omega arith))

fewer_entries : (es : List Entry) → length es ≤ length (plan_words es)
unfolding plan_words
fewer_entries [] = omega arith
fewer_entries (e ∷ es) = let i : length es ≤ length (plan_words es) = fewer_entries es in let a = length-append e.words (plan_words es) in omega arith

pub entries_of_plan : (es : List Entry) → entries_in (plan_words es) ≡ es
entries_of_plan es = entries_read (length (plan_words es)) es (fewer_entries es)

-- the words of a plan are what a plan's text is written from
pub is_plan : {ws : List ℕ} (es : List Entry) → ws ≡ plan_words es → IsPlan ws
is_plan es e = rw e (ap plan_words (entries_of_plan es))

pub entries_in_plan : {ws : List ℕ} (es : List Entry) → ws ≡ plan_words es → entries_in ws ≡ es
entries_in_plan es e = rw e (entries_of_plan es)

-- the words left are those of an entry and of the rest: its carrier, the count of its words, and after these its words and the rest's
pub record NextEntry (left : List ℕ) (es : List Entry) : Type 0 where
  pub entry : Entry
  pub rest : List Entry
  pub split : es ≡ entry ∷ rest
  pub carrier : get_or left 0 0 ≡ entry.carrier
  pub count : get_or left 1 0 ≡ length entry.words
  pub after : take (length left - 2) (drop 2 left) ≡ entry.words ++ plan_words rest

pub next_entry : (left : List ℕ) (es : List Entry) → left ≡ plan_words es → 2 ≤ length left → NextEntry left es
unfolding plan_words
next_entry left [] h long = absurd (omega (arith, ap length h))
next_entry left (e ∷ es) h long = record {
  entry = e;
  rest = es;
  split = refl;
  carrier = ap (λ (l : List ℕ). get_or l 0 0) h;
  count = ap (λ (l : List ℕ). get_or l 1 0) h;
  after = take_all (length left - 2) (drop 2 left) (omega (arith, length-drop 2 left)) ∙ ap (drop 2) h;
}

-- fewer than two words are no entry's
pub no_entry : (left : List ℕ) (es : List Entry) → left ≡ plan_words es → length left < 2 → es ≡ []
unfolding plan_words
no_entry left [] h few = refl
no_entry left (e ∷ es) h few = absurd (omega (arith, ap length h))

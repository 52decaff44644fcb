-- How long a page can be: at most 75,511 bytes for a board of 96 zones.
-- Each text's length is added up; a carrier has at most five digits, a zone below 96 at most two, any other number at most three.
use Prim.Native.Nat.{ℕ, suc, ◌+◌, ◌*◌, ◌≤◌, ◌<◌}
use mathlib.Core.Path.{◌≡◌, refl, ap, ◌∙◌}
use mathlib.Core.List.{List, [], ◌∷◌, Memᴰ}
use mathlib.Core.Bool.{Bool, true, false, cond}
use native.Mathlib.Omega.{arith}
use native.Mathlib.Nat.{mul-suc}
use borrow.Author.Tests.{eqb-true}
use lib.ListN.{length, length-append}
use lib.Dec.{ltb, eqb}
use Rattle.model.specs.declared.Summary.{Summary}
use Rattle.model.specs.Reading.{refusal, track_said, position_said}
use Rattle.model.specs.Track.{Track, zone_of, heading_of}
use Rattle.model.specs.Position.{Position, outs}
use Rattle.model.proofs.ReadingLaws.{refusal_small}
use Rattle.rules.specs.Routes.{Entry}
use Rattle.rules.specs.Key.{run, named, verdict_of}
use Rattle.page.specs.Page.{spelled, in_sequence, decimal, labelled, word_text, spaced, entry_line, entry_lines, blocked_text, first_lines, key_page, refused_page, too_long_page, page_for, page_of, LONGEST, PAGE}
use Rattle.page.proofs.DecimalLaws.{digits_most}
use Rattle.page.proofs.PlanPut.{entry_pieces}
use Rattle.page.proofs.PagePut.{first_pieces, key_pieces}

-- an entry of a plan on at most 96 zones
pub record SmallEntry (e : Entry) : Type 0 where
  pub carrier_small : e.carrier < 65536
  pub words_few : length e.words ≤ 192
  pub words_small : (w : ℕ) → Memᴰ w e.words → w < 192

-- what a page of a board of at most 96 zones is written from
pub record SmallKey (summary : Summary) (verdict : ℕ) (es : List Entry) (blocked : List ℕ) : Type 0 where
  pub points_small : summary.points < 1000
  pub zones_small : summary.zones < 1000
  pub out_small : summary.out < 1000
  pub verdict_small : verdict < 1000
  pub entries_few : length es ≤ 96
  pub entries_small : (e : Entry) → Memᴰ e es → SmallEntry e
  pub blocked_few : length blocked ≤ 96
  pub blocked_small : (c : ℕ) → Memᴰ c blocked → c < 65536

-- the same of a track and its first position
abbrev pub SmallPage : Track → Position → Type 0
SmallPage t p = SmallKey (record { points = t.points; zones = t.zones; out = length (outs p) }) (verdict_of (named t p)) (run t p).plan (named t p)

abbrev lengths : List (List ℕ) → ℕ
lengths [] = 0
lengths (a ∷ l) = length a + lengths l

row_length : (l : List (List ℕ)) → length (in_sequence l) ≡ lengths l
row_length [] = refl
row_length (a ∷ l) = length-append a (in_sequence l) ∙ ap (λ (n : ℕ). length a + n) (row_length l)

three_digits : (n : ℕ) → n < 1000 → length (decimal n) ≤ 3
three_digits n h = digits_most 2 n (omega arith)

five_digits : (n : ℕ) → n < 65536 → length (decimal n) ≤ 5
five_digits n h = digits_most 4 n (omega arith)

labelled_length : (label : List ℕ) (n : ℕ) {d : ℕ} → length (decimal n) ≤ d → length (labelled label n) ≤ length label + d
labelled_length label n h = let r = row_length (label ∷ decimal n ∷ []) in omega arith

word_length : (w : ℕ) → w < 192 → length (word_text w) ≤ 3
unfolding word_text
word_length w h = go (eqb (heading_of w) 0)
  where
    go : (t : Bool) → length (in_sequence (decimal (zone_of w) ∷ cond t (spelled "+") (spelled "-") ∷ [])) ≤ 3
    go true = let r = row_length (decimal (zone_of w) ∷ spelled "+" ∷ []) in let d = digits_most 1 (zone_of w) (omega arith) in omega arith
    go false = let r = row_length (decimal (zone_of w) ∷ spelled "-" ∷ []) in let d = digits_most 1 (zone_of w) (omega arith) in omega arith

spaced_none : (f : ℕ → List ℕ) → length (spaced f []) ≤ 0
unfolding spaced
spaced_none f = omega arith

spaced_more : (f : ℕ → List ℕ) (a : ℕ) (l : List ℕ) → length (spaced f (a ∷ l)) ≡ 1 + (length (f a) + length (spaced f l))
unfolding spaced
spaced_more f a l = row_length (spelled " " ∷ f a ∷ spaced f l ∷ []) ∙ omega arith

spaced_length : (f : ℕ → List ℕ) (d : ℕ) (l : List ℕ) → ((a : ℕ) → Memᴰ a l → length (f a) ≤ d) → length (spaced f l) ≤ suc d * length l
spaced_length f d [] h = omega (arith, spaced_none f)
spaced_length f d (a ∷ l) h =
    let one : length (f a) ≤ d = h a (Memᴰ.head refl) in
    let rest : length (spaced f l) ≤ suc d * length l = spaced_length f d l (λ b m. h b (Memᴰ.tail m)) in
    omega (arith, spaced_more f a l, mul-suc (suc d) (length l))

entry_sum : (e : Entry) → length (entry_line e) ≡ lengths (entry_pieces e)
unfolding entry_line
entry_sum e = row_length (entry_pieces e)

entry_length : (e : Entry) → SmallEntry e → length (entry_line e) ≤ 780
entry_length e s =
    let name = labelled_length (spelled "home ") e.carrier (five_digits e.carrier s.carrier_small) in
    let words = spaced_length word_text 3 e.words (λ w m. word_length w (s.words_small w m)) in
    omega (arith, entry_sum e)

lines_none : length (entry_lines []) ≤ 0
unfolding entry_lines
lines_none = omega arith

lines_more : (e : Entry) (es : List Entry) → length (entry_lines (e ∷ es)) ≡ length (entry_line e) + length (entry_lines es)
unfolding entry_lines
lines_more e es = row_length (entry_line e ∷ entry_lines es ∷ []) ∙ omega arith

lines_length : (es : List Entry) → ((e : Entry) → Memᴰ e es → SmallEntry e) → length (entry_lines es) ≤ 780 * length es
lines_length [] h = lines_none
lines_length (e ∷ es) h =
    let one : length (entry_line e) ≤ 780 = entry_length e (h e (Memᴰ.head refl)) in
    let rest : length (entry_lines es) ≤ 780 * length es = lines_length es (λ f m. h f (Memᴰ.tail m)) in
    omega (arith, lines_more e es)

blocked_length : (l : List ℕ) → length l ≤ 96 → ((c : ℕ) → Memᴰ c l → c < 65536) → length (blocked_text l) ≤ 576
unfolding blocked_text
blocked_length [] few small = omega arith
blocked_length (c ∷ cs) few small = let s = spaced_length decimal 5 (c ∷ cs) (λ a m. five_digits a (small a m)) in omega arith

module _ {summary : Summary} {verdict : ℕ} {es : List Entry} {blocked : List ℕ} (s : SmallKey summary verdict es blocked) where
  first_sum : length (first_lines summary verdict) ≡ lengths (first_pieces summary verdict)
  unfolding first_lines
  first_sum = row_length (first_pieces summary verdict)

  first_length : length (first_lines summary verdict) ≤ 47
  first_length =
      let p = labelled_length (spelled "board ") summary.points (three_digits summary.points s.points_small) in
      let z = labelled_length (spelled " points ") summary.zones (three_digits summary.zones s.zones_small) in
      let o = labelled_length (spelled " zones ") summary.out (three_digits summary.out s.out_small) in
      let v = labelled_length (spelled " out\nverdict ") verdict (three_digits verdict s.verdict_small) in
      omega (arith, first_sum)

  page_sum : length (key_page summary verdict es blocked) ≡ lengths (key_pieces summary verdict es blocked)
  unfolding key_page
  page_sum = row_length (key_pieces summary verdict es blocked)

  pub key_page_fits : length (key_page summary verdict es blocked) ≤ PAGE
  key_page_fits =
      let h = first_length in
      let l = lines_length es s.entries_small in
      let b = blocked_length blocked s.blocked_few s.blocked_small in
      omega (arith, page_sum)

pub refused_page_fits : (number : ℕ) → number < 1000 → length (refused_page number) ≤ PAGE
unfolding refused_page
refused_page_fits number h =
    let r = row_length (labelled (spelled "refused ") number ∷ spelled "\n" ∷ []) in
    let l = labelled_length (spelled "refused ") number (three_digits number h) in
    omega arith

-- of every board in bytes, given the sizes of what the key finds
pub page_of_fits : (b : List ℕ) → (refusal b ≡ 0 → SmallPage (track_said b) (position_said b)) → length (page_of b) ≤ PAGE
unfolding page_of page_for
page_of_fits b small = go (ltb LONGEST (length b)) (eqb (refusal b) 0) refl
  where
    go : (long right : Bool) → eqb (refusal b) 0 ≡ right → length (cond long too_long_page (cond right (page_for (track_said b) (position_said b)) (refused_page (refusal b)))) ≤ PAGE
    go true right e = omega arith
    go false true e = key_page_fits (small (eqb-true (refusal b) 0 e))
    go false false e = let r = refusal_small b in refused_page_fits (refusal b) (omega arith)

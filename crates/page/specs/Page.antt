-- What `key` prints, as bytes.
-- The lines are laid out as document 01 shows them for board K; each ends with a newline.
use Rattle.std.specs.Prelude.{ℕ, zero, suc, ◌+◌, ◌/◌, ◌%◌, List, [], ◌∷◌, ◌++◌, ◌≡◌, cond, length, ltb, eqb}
use Prim.Native.Char.{code}
use Prim.Native.String.{String}
use Rattle.model.specs.declared.Summary.{Summary}
use Rattle.model.specs.Track.{Track, zone_of, heading_of}
use Rattle.model.specs.Position.{Position, outs}
use Rattle.model.specs.Reading.{refusal, track_said, position_said}
use Rattle.rules.specs.Routes.{Entry}
use Rattle.rules.specs.Key.{run, named, verdict_of}

-- the ASCII codes of a text
abbrev pub spelled : String → List ℕ
spelled String.[] = []
spelled (String.◌∷◌ c s) = code c ∷ spelled s

-- texts one after another
abbrev pub in_sequence : List (List ℕ) → List ℕ
in_sequence [] = []
in_sequence (a ∷ l) = a ++ in_sequence l

-- the digits of n, the last of which is n % 10; k is more than there can be
unfoldable pub digits_of : ℕ → ℕ → List ℕ
digits_of zero n = []
digits_of (suc k) n =
    let longer = digits_of k (n / 10) ++ ((48 + n % 10) ∷ []) in
    cond (ltb n 10) ((48 + n) ∷ []) longer

-- n in decimal, with no leading zeros; 0 is `0`
unfoldable pub decimal : ℕ → List ℕ
decimal n = digits_of (suc n) n

-- a number after a text
abbrev pub labelled : List ℕ → ℕ → List ℕ
labelled label n = in_sequence (label ∷ decimal n ∷ [])

-- a zone with + for heading 0 and - for 1
unfoldable pub word_text : ℕ → List ℕ
word_text w = in_sequence (decimal (zone_of w) ∷ cond (eqb (heading_of w) 0) (spelled "+") (spelled "-") ∷ [])

-- each after a space
unfoldable pub spaced : (ℕ → List ℕ) → List ℕ → List ℕ
spaced f [] = []
spaced f (a ∷ l) = in_sequence (spelled " " ∷ f a ∷ spaced f l ∷ [])

-- a carrier that goes home, with its route
unfoldable pub entry_line : Entry → List ℕ
entry_line e = in_sequence (labelled (spelled "home ") e.carrier ∷ spelled ":" ∷ spaced word_text e.words ∷ spelled "\n" ∷ [])

-- a line for each carrier in order of leaving
unfoldable pub entry_lines : List Entry → List ℕ
entry_lines [] = []
entry_lines (e ∷ es) = in_sequence (entry_line e ∷ entry_lines es ∷ [])

-- the blocked numbers, or `none`
unfoldable pub blocked_text : List ℕ → List ℕ
blocked_text [] = spelled " none"
blocked_text (c ∷ cs) = spaced decimal (c ∷ cs)

-- the first two lines: counts P, Z, C; the verdict
unfoldable pub first_lines : Summary → ℕ → List ℕ
first_lines summary verdict =
    in_sequence
    (labelled (spelled "board ") summary.points ∷
    labelled (spelled " points ") summary.zones ∷
    labelled (spelled " zones ") summary.out ∷
    labelled (spelled " out\nverdict ") verdict ∷
    spelled "\n" ∷ [])

-- the page of a board that is not turned back
unfoldable pub key_page : Summary → ℕ → List Entry → List ℕ → List ℕ
key_page summary verdict es blocked =
    in_sequence (first_lines summary verdict ∷ entry_lines es ∷ spelled "blocked" ∷ blocked_text blocked ∷ spelled "\n" ∷ [])

-- the page of a board that is turned back with this number
unfoldable pub refused_page : ℕ → List ℕ
refused_page number = in_sequence (labelled (spelled "refused ") number ∷ spelled "\n" ∷ [])

-- no board has more bytes: six and 96 × 5
abbrev pub LONGEST : ℕ
LONGEST = 486

-- the page of more bytes than that
abbrev pub too_long_page : List ℕ
too_long_page = spelled "too long\n"

unfoldable pub page_for : Track → Position → List ℕ
page_for t p = key_page (record { points = t.points; zones = t.zones; out = length (outs p) }) (verdict_of (named t p)) (run t p).plan (named t p)

-- the page of a board in bytes
unfoldable pub page_of : List ℕ → List ℕ
page_of b =
    let refused = refused_page (refusal b) in
    let page = page_for (track_said b) (position_said b) in
    cond (ltb LONGEST (length b)) too_long_page
    (cond (eqb (refusal b) 0) page refused)

-- no accepted board is too long: its page goes by what its bytes say, and is the same in both versions
abbrev pub AcceptedPage : Type 0
AcceptedPage = (b : List ℕ) → refusal b ≡ 0 → page_of b ≡ page_for (track_said b) (position_said b)

-- enough bytes for every page of at most 96 zones: 47 for the first two lines, 96 lines of 780, and 584 for the blocked list
abbrev pub PAGE : ℕ
PAGE = 75511

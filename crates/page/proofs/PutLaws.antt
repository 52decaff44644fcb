-- Texts put one after another are one text put.
-- `Putting` is the state between two puts, in a loop and in a row of calls alike: what is left to write, put at the next place, makes the whole.
use Prim.Native.Nat.{ℕ, ◌+◌, ◌≤◌}
use mathlib.Core.Path.{◌≡◌, refl, sym, ap, ap₂, ◌∙◌}
use mathlib.Core.List.{List, [], ◌∷◌, ◌++◌, append_assoc}
use native.Mathlib.Omega.{arith}
use lib.ListN.{length, take, drop, length-append, length-drop, take-append-drop}
use lib.Seq.{length-take-le, take_at, drop_at, drop-drop}
use Rattle.page.specs.declared.writing.Writing.{Writing}
use Rattle.page.specs.Page.{in_sequence}
use Rattle.model.specs.Lists.{overwritten_at}
use Rattle.page.specs.Writing.{TextRoom, Put, Begun, Begins}

spread : (from : ℕ) (text page : List ℕ) → overwritten_at from text page ≡ take from page ++ (text ++ drop (from + length text) page)
spread from text page = refl

module _ (from : ℕ) (text page : List ℕ) (room : from + length text ≤ length page) where
  front : overwritten_at from text page ≡ (take from page ++ text) ++ drop (from + length text) page
  front = sym (append_assoc (take from page) text (drop (from + length text) page))

  length_front : length (take from page ++ text) ≡ from + length text
  length_front = rw (length-append, length-take-le from page (omega arith))

  pub length_overwritten : length (overwritten_at from text page) ≡ length page
  length_overwritten = rw (front, length-append, length_front, length-drop) (omega arith)

  take_overwritten : take (from + length text) (overwritten_at from text page) ≡ take from page ++ text
  take_overwritten = rw front (take_at (take from page ++ text) (drop (from + length text) page) (from + length text) length_front)

  drop_overwritten : drop (from + length text) (overwritten_at from text page) ≡ drop (from + length text) page
  drop_overwritten = rw front (drop_at (take from page ++ text) (drop (from + length text) page) (from + length text) length_front)

  -- two texts put one after the other are one
  pub put_after : (more : List ℕ) → overwritten_at (from + length text) more (overwritten_at from text page) ≡ overwritten_at from (text ++ more) page
  put_after more =
      let past : drop (from + length text + length more) (overwritten_at from text page) ≡ drop (from + length text + length more) page = sym (drop-drop (length more) (from + length text) (overwritten_at from text page)) ∙ ap (drop (length more)) drop_overwritten ∙ drop-drop (length more) (from + length text) page in
      let total : from + length text + length more ≡ from + length (text ++ more) = omega (arith, length-append text more) in
      let rest = drop (from + length (text ++ more)) page in
      spread (from + length text) more (overwritten_at from text page)
      ∙ ap₂ (λ (l m : List ℕ). l ++ (more ++ m)) take_overwritten (past ∙ ap (λ (n : ℕ). drop n page) total)
      ∙ append_assoc (take from page) text (more ++ rest)
      ∙ ap (λ (l : List ℕ). take from page ++ l) (sym (append_assoc text more rest))
      ∙ sym (spread from (text ++ more) page)

pub put_nothing : (from : ℕ) (page : List ℕ) → overwritten_at from [] page ≡ page
put_nothing from page = let e : from + 0 ≡ from = omega arith in rw e (take-append-drop from page)

pub length_put : {text : List ℕ} {before after : Writing} → TextRoom text before → Put text before after → length after.page.now ≡ length before.page.now
length_put {text} {before} room p = ap length p.written ∙ length_overwritten before.at text before.page.now room.fits

-- a text put from the first place on of a page as it was lent
module _ {text page : List ℕ} {w : Writing} (begun : Begun page w) where
  pub lent_room : length text ≤ length page → TextRoom text w
  lent_room room = record { fits = omega (arith, ap length begun.as_lent, begun.first) }

  pub begins : {v : Writing} → Put text w v → Begins text page v.page.now v.at
  begins {v} p =
      let e : 0 + length text ≡ length text = omega arith in record {
        written = rw (begun.first, begun.as_lent) at p.written ∙ ap (λ (n : ℕ). text ++ drop n page) e;
        bytes = omega (arith, p.place, begun.first);
      }

pub record Putting (text : List ℕ) (before : Writing) (left : List (List ℕ)) (w : Writing) : Type 0 where
  pub whole : overwritten_at w.at (in_sequence left) w.page.now ≡ overwritten_at before.at text before.page.now
  pub end : w.at + length (in_sequence left) ≡ before.at + length text
  pub long : length w.page.now ≡ length before.page.now
  pub room : TextRoom text before
  pub same_page : w.page.ghost_name ≡ before.page.ghost_name

in_row_append : (l m : List (List ℕ)) → in_sequence (l ++ m) ≡ in_sequence l ++ in_sequence m
in_row_append [] m = refl
in_row_append (a ∷ l) m = rw (in_row_append l m, append_assoc)

pub starts : {w : Writing} (l : List (List ℕ)) → TextRoom (in_sequence l) w → Putting (in_sequence l) w l w
starts l room = record { whole = refl; end = refl; long = refl; room = room; same_page = refl }

module _ {text : List ℕ} {before : Writing} where
  pub room_left : {a : List ℕ} {l : List (List ℕ)} {w : Writing} → Putting text before (a ∷ l) w → TextRoom a w
  room_left {a} {l} {w} g = let s = length-append a (in_sequence l) in record { fits = omega (arith, g.end, g.long, g.room.fits) }

  pub goes_on_lem : {a : List ℕ} {l : List (List ℕ)} {w v : Writing} → Putting text before (a ∷ l) w → Put a w v → Putting text before l v
  goes_on_lem {a} {l} {w} {v} g p = record {
    whole = rw (p.written, p.place) (put_after w.at a w.page.now (room_left g).fits (in_sequence l) ∙ g.whole);
    end = let s = length-append a (in_sequence l) in omega (arith, g.end, p.place);
    long = length_put (room_left g) p ∙ g.long;
    room = g.room;
    same_page = p.same_page ∙ g.same_page;
  }

  -- a text that is itself a row of texts is put one by one
  pub goes_in : {w : Writing} (l : List (List ℕ)) {m : List (List ℕ)} → Putting text before (in_sequence l ∷ m) w → Putting text before (l ++ m) w
  goes_in l {m} g = record { whole = rw (in_row_append l m) g.whole; end = rw (in_row_append l m) g.end; long = g.long; room = g.room; same_page = g.same_page }

  pub ends : {w : Writing} → Putting text before [] w → Put text before w
  ends {w} g = record { written = sym (put_nothing w.at w.page.now) ∙ g.whole; place = omega (arith, g.end); same_page = g.same_page }

-- one text after another: `g then p then q`
infixl 20 ◌then◌
pub ◌then◌ : {text : List ℕ} {before : Writing} {a : List ℕ} {l : List (List ℕ)} {w v : Writing} → Putting text before (a ∷ l) w → Put a w v → Putting text before l v
◌then◌ = goes_on_lem

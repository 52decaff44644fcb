-- Words found, in code, as two lists: these are as long as the list of both, and a word stored there is a number stored in each.
-- Each list is a map over that one, so what is read or stored at a place is read or stored at that place of each.
use Prim.Native.Nat.{ℕ, ◌<◌}
use mathlib.Core.Path.{◌≡◌, refl, sym, ◌∙◌}
use mathlib.Core.List.{List}
use native.Mathlib.Omega.{arith}
use lib.ListN.{length, get_or, set, length-map, length-set, get_or-map}
use lib.Seq.{take-suc-set}
use Rattle.std.proofs.lemmas.List.{map-set}
use Rattle.queue.specs.declared.Found.{Found}
use Rattle.queue.specs.Queue.{words_of, froms_of, Started}

module _ (found : List Found) where
  pub words_length : length (words_of found) ≡ length found
  unfolding words_of
  words_length = length-map found (λ f. f.word)

  pub froms_length : length (froms_of found) ≡ length found
  unfolding froms_of
  froms_length = length-map found (λ f. f.from)

  pub word_at : (place : ℕ) → (get_or found place (record { word = 0; from = 0 })).word ≡ get_or (words_of found) place 0
  unfolding words_of
  word_at place = sym (get_or-map (λ (f : Found). f.word) found place (record { word = 0; from = 0 }))

  pub from_at : (place : ℕ) → (get_or found place (record { word = 0; from = 0 })).from ≡ get_or (froms_of found) place 0
  unfolding froms_of
  from_at place = sym (get_or-map (λ (f : Found). f.from) found place (record { word = 0; from = 0 }))

  module _ (place word from : ℕ) where
    abbrev stored : List Found
    stored = set found place (record { word = word; from = from })

    pub word_stored : words_of stored ≡ set (words_of found) place word
    unfolding words_of
    word_stored = map-set (λ f. f.word) found place (record { word = word; from = from })

    pub from_stored : froms_of stored ≡ set (froms_of found) place from
    unfolding froms_of
    from_stored = map-set (λ f. f.from) found place (record { word = word; from = from })

  pub starts : (n word : ℕ) → length found ≡ n → 0 < n → Started n word (set (words_of found) 0 word) (set (froms_of found) 0 0) 1
  starts n word long some = record {
    one = refl;
    first_word = take-suc-set (words_of found) 0 word (omega (arith, words_length));
    first_from = take-suc-set (froms_of found) 0 0 (omega (arith, froms_length));
    room_words = length-set (words_of found) 0 word ∙ words_length ∙ long;
    room_froms = length-set (froms_of found) 0 0 ∙ froms_length ∙ long;
  }

-- Words found, in code, as two lists: the words, and the places that they were found from. Those of a queue; and a queue of one word.
use Rattle.std.specs.Prelude.{ℕ, List, [], ◌∷◌, ◌≡◌, length, map, take}
use Rattle.queue.specs.declared.Found.{Found}
use Rattle.queue.specs.declared.Queue.{Queue}

-- the word at each place
unfoldable pub words_of : List Found → List ℕ
words_of found = map (λ f. f.word) found

-- the place of the word that it was found from
unfoldable pub froms_of : List Found → List ℕ
froms_of found = map (λ f. f.from) found

module _ {n : ℕ} where
  abbrev pub words_in : Queue n → List ℕ
  words_in q = words_of q.found

  abbrev pub froms_in : Queue n → List ℕ
  froms_in q = froms_of q.found

-- one word is in the queue, which has so many places
pub record Started (places word : ℕ) (words froms : List ℕ) (count : ℕ) : Type 0 where
  pub one : count ≡ 1
  pub first_word : take 1 words ≡ word ∷ []
  pub first_from : take 1 froms ≡ 0 ∷ []
  pub room_words : length words ≡ places
  pub room_froms : length froms ≡ places

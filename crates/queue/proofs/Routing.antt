-- Laws of the route that is read back from a place of the queue: its count does not depend on the words, and it is stored from its end backwards.
-- Each step goes to an earlier place, so the steps allowed are always enough; the words passed so far decide the rest.
use Prim.Native.Nat.{ℕ, zero, suc, ◌+◌, ◌-◌, ◌≤◌, ◌<◌}
use mathlib.Core.Path.{◌≡◌, refl, sym, ◌∙◌, ap, subst}
use mathlib.Core.List.{List, [], ◌∷◌, ◌++◌, append-nil}
use mathlib.Core.Bool.{Bool, true, false}
use borrow.Author.Tests.{ltb-true, ltb-false}
use lib.Dec.{ltb}
use native.Mathlib.Omega.{arith}
use lib.Arith.{le-zero}
use lib.ListN.{length, get_or, take, drop, set, length-set, length-take, length-drop}
use lib.Seq.{take-length, take-suc, append_snoc, set_at, length-take-le}
use Rattle.least.specs.Queue.{Queue, path_onto, path_to}
use Rattle.least.proofs.PathLaws.{path_length}
use Rattle.queue.specs.Written.{route_to, Falling, EntryRoom}

abbrev queue : List ℕ → List ℕ → Queue
queue words froms = record { words = words; froms = froms }

module _ (words froms : List ℕ) where
  -- more steps allowed than places change nothing
  path_fuel : (b : ℕ) → ((j : ℕ) → 0 < j → j ≤ b → get_or froms j 0 < j) → (m n j : ℕ) (l : List ℕ) → j ≤ b → j < m → j < n → path_onto m (queue words froms) j l ≡ path_onto n (queue words froms) j l
  unfolding path_onto
  path_fuel b f zero n j l h a c = absurd (omega arith)
  path_fuel b f (suc m) zero j l h a c = absurd (omega arith)
  path_fuel b f (suc m) (suc n) zero l h a c = refl
  path_fuel b f (suc m) (suc n) (suc j) l h a c =
      let d : get_or froms (suc j) 0 < suc j = f (suc j) (omega arith) h in
      path_fuel b f m n (get_or froms (suc j) 0) (get_or words (suc j) 0 ∷ l) (omega arith) (omega arith) (omega arith)

  path_cons : (j : ℕ) (l : List ℕ) → 0 < j → path_onto (suc j) (queue words froms) j l ≡ path_onto j (queue words froms) (get_or froms j 0) (get_or words j 0 ∷ l)
  unfolding path_onto
  path_cons zero l h = absurd (omega arith)
  path_cons (suc j) l h = refl

  path_more : (n j : ℕ) (l : List ℕ) → length l ≤ length (path_onto n (queue words froms) j l)
  unfolding path_onto
  path_more zero j l = omega arith
  path_more (suc n) zero l = omega arith
  path_more (suc n) (suc j) l = let r : suc (length l) ≤ length (path_onto n (queue words froms) (get_or froms (suc j) 0) (get_or words (suc j) 0 ∷ l)) = path_more n (get_or froms (suc j) 0) (get_or words (suc j) 0 ∷ l) in omega arith

  -- there is a word more to come
  path_longer : (n j : ℕ) (l : List ℕ) → length l < length (path_onto (suc n) (queue words froms) j l)
  unfolding path_onto
  path_longer n zero l = omega arith
  path_longer n (suc j) l = path_more n (get_or froms (suc j) 0) (get_or words (suc j) 0 ∷ l)

-- the count does not depend on the words
path_count : (words words' froms : List ℕ) (n j : ℕ) (l l' : List ℕ) → length l ≡ length l' → length (path_onto n (queue words froms) j l) ≡ length (path_onto n (queue words' froms) j l')
unfolding path_onto
path_count words words' froms zero j l l' e = e
path_count words words' froms (suc n) zero l l' e = ap suc e
path_count words words' froms (suc n) (suc j) l l' e = path_count words words' froms n (get_or froms (suc j) 0) (get_or words (suc j) 0 ∷ l) (get_or words' (suc j) 0 ∷ l') (ap suc e)

pub route_count : (words words' froms : List ℕ) (place : ℕ) → length (route_to words froms place) ≡ length (route_to words' froms place)
unfolding path_to
route_count words words' froms place = path_count words words' froms (suc place) place [] [] refl

-- at place j with the words `left` passed
pub record Back (words froms : List ℕ) (place j : ℕ) (left : List ℕ) : Type 0 where
  pub low : j ≤ place
  pub rest : path_onto (suc j) (queue words froms) j left ≡ route_to words froms place

module _ {words froms : List ℕ} {place : ℕ} where
  pub back_starts : Back words froms place place []
  unfolding path_to
  back_starts = record { low = omega arith; rest = refl }

  module _ {j : ℕ} {left : List ℕ} (b : Back words froms place j left) where
    pub back_more : Falling froms place → 0 < j → Back words froms place (get_or froms j 0) (get_or words j 0 ∷ left)
    back_more f h =
        let d : get_or froms j 0 < j = f.falls j h b.low in
        record {
          low = omega (arith, b.low);
          rest =
              path_fuel words froms place f.falls (suc (get_or froms j 0)) j (get_or froms j 0) (get_or words j 0 ∷ left) (omega (arith, b.low)) (omega arith) d ∙
              sym (path_cons words froms j left h) ∙
              b.rest;
        }

    pub back_longer : length left < length (route_to words froms place)
    back_longer = subst (λ (r : List ℕ). length left < length r) b.rest (path_longer words froms j j left)

    pub back_done : j ≤ 0 → get_or words 0 0 ∷ left ≡ route_to words froms place
    unfolding path_onto
    back_done h = subst (λ (i : ℕ). path_onto (suc i) (queue words froms) i left ≡ route_to words froms place) (le-zero h) b.rest

-- the count, with n of the words counted
pub record CountingWords (froms : List ℕ) (place n j : ℕ) : Type 0 where
  pub left : List ℕ
  pub back : Back [] froms place j left
  pub counted : suc (length left) ≡ n
  pub bound : n + j ≤ suc place

pub counting_starts : (froms : List ℕ) (place : ℕ) → CountingWords froms place 1 place
counting_starts froms place = record { left = []; back = back_starts; counted = refl; bound = omega arith }

-- the next word to count has its place in the list
pub place_to_count : {froms : List ℕ} {place n j : ℕ} → CountingWords froms place n j → place < length froms → j < length froms
place_to_count c i = omega (arith, c.back.low)

module _ {froms : List ℕ} {place n j : ℕ} (f : Falling froms place) (c : CountingWords froms place n j) where
  pub counting_more : 0 < j → CountingWords froms place (n + 1) (get_or froms j 0)
  counting_more h = record {
    left = get_or [] j 0 ∷ c.left;
    back = back_more c.back f h;
    counted = omega (arith, c.counted);
    bound = omega (arith, c.bound, f.falls j h c.back.low);
  }

  pub counting_done : j ≤ 0 → n ≡ length (route_to [] froms place)
  counting_done h = sym c.counted ∙ ap length (back_done c.back h)

-- the storing, with the words from k on stored
pub record StoringRoute (words froms : List ℕ) (place : ℕ) (route₀ route : List ℕ) (k j : ℕ) : Type 0 where
  pub left : List ℕ
  pub counted : k + length left ≡ length (route_to words froms place)
  -- with all stored, j is no place of the route
  pub back : 0 < k → Back words froms place j left
  pub all : k ≡ 0 → left ≡ route_to words froms place
  pub as_long : length route₀ ≡ length (route_to words froms place)
  pub stored : route ≡ take k route₀ ++ left

pub storing_starts : (words froms : List ℕ) (place : ℕ) (route : List ℕ) → length route ≡ length (route_to words froms place) → StoringRoute words froms place route route (length route) place
storing_starts words froms place route e = record {
  left = [];
  counted = omega (arith, e);
  back = λ h. back_starts;
  all = λ z. absurd (omega (arith, e, some_word));
  as_long = e;
  stored = sym (ap (λ (l : List ℕ). l ++ []) (take-length route) ∙ append-nil route);
}
  where
    some_word : 0 < length (route_to words froms place)
    some_word = back_longer (back_starts {words = words} {froms = froms} {place = place})

-- the next word to store has its place in the list
pub place_to_store : {words froms : List ℕ} {place : ℕ} {route₀ route : List ℕ} {k j : ℕ} → StoringRoute words froms place route₀ route k j → 0 < k → place < length words → j < length words
place_to_store s h i = omega (arith, (s.back h).low)

-- a store right before what is stored
store_before : (l r : List ℕ) (k v : ℕ) → 0 < k → k ≤ length l → set (take k l ++ r) (k - 1) v ≡ take (k - 1) l ++ (v ∷ r)
store_before l r zero v h b = absurd (omega arith)
store_before l r (suc i) v h b =
    let e : suc i - 1 ≡ i = omega arith in
    rw e (ap (λ (m : List ℕ). set (m ++ r) i v) (take-suc l i 0 b) ∙ ap (λ (m : List ℕ). set m i v) (append_snoc (take i l) (get_or l i 0) r) ∙ set_at (take i l) (get_or l i 0) r v i (length-take-le i l (omega arith)))

module _ {words froms : List ℕ} {place : ℕ} {route₀ route : List ℕ} {k j : ℕ} (s : StoringRoute words froms place route₀ route k j) (some : 0 < k) where
  pub storing_more : Falling froms place → StoringRoute words froms place route₀ (set route (k - 1) (get_or words j 0)) (k - 1) (get_or froms j 0)
  storing_more f = record {
    left = get_or words j 0 ∷ s.left;
    counted = omega (arith, s.counted, some);
    back = λ h. back (ltb 0 j) refl h;
    all = λ z. all (ltb 0 j) refl z;
    as_long = s.as_long;
    stored = ap (λ (l : List ℕ). set l (k - 1) (get_or words j 0)) s.stored ∙ store_before route₀ s.left k (get_or words j 0) some (omega (arith, s.counted, s.as_long));
  }
    where
      back : (t : Bool) → ltb 0 j ≡ t → 0 < k - 1 → Back words froms place (get_or froms j 0) (get_or words j 0 ∷ s.left)
      back true e h = back_more (s.back some) f (ltb-true 0 j e)
      back false e h = absurd (omega (arith, s.counted, ap length (back_done (s.back some) (ltb-false 0 j e))))

      all : (t : Bool) → ltb 0 j ≡ t → k - 1 ≡ 0 → get_or words j 0 ∷ s.left ≡ route_to words froms place
      all true e z = absurd (omega (arith, s.counted, back_longer (back_more (s.back some) f (ltb-true 0 j e))))
      all false e z =
          let first : j ≡ 0 = omega (arith, ltb-false 0 j e) in
          rw first (back_done (s.back some) (omega arith))

-- the entry: carrier and count before the route

module _ {carrier place : ℕ} {words froms plan : List ℕ} {k : ℕ} (e : EntryRoom carrier place words froms plan k) {n : ℕ} (counted : n ≡ length (route_to [] froms place)) where
  pub entry_count : n ≡ length (route_to words froms place)
  entry_count = counted ∙ route_count [] words froms place

  pub entry_few : n ≤ suc place
  entry_few = omega (arith, entry_count, path_length (queue words froms) place)

  pub entry_room : k + 2 + n ≤ length plan
  entry_room = omega (arith, entry_few, e.room)

  -- whatever the first two words are
  pub entry_fits : (a b : ℕ) → (length (route_to words froms place) ≤ k + 2 + n) × (k + 2 + n ≤ length (set (set plan k a) (k + 1) b))
  entry_fits a b = (omega (arith, entry_count), simp length-set entry_room)

  -- the part of the plan for the words is as long as they are
  pub entry_part : (a b : ℕ) → length (take (k + 2 + n - (k + 2)) (drop (k + 2) (set (set plan k a) (k + 1) b))) ≡ length (route_to words froms place)
  entry_part a b = simp (length-take, length-drop, length-set) (omega (arith, entry_count, entry_room))

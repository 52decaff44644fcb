-- The lists of a search as its queue: how many words it has, the word at a place, the route to it, and the lists with one word found.
-- A route reads the lists no further than the queue goes, since each place was found from an earlier one.
use Prim.Native.Nat.{ℕ, zero, suc, ◌+◌, ◌≤◌, ◌<◌}
use mathlib.Core.Path.{◌≡◌, refl, sym, ◌∙◌, ap, ap₂}
use mathlib.Core.List.{List, [], ◌∷◌}
use mathlib.Core.Bool.{Bool, false, not, ◌&&◌, or-false}
use native.Mathlib.Omega.{arith}
use lib.ListN.{length, get_or, take}
use lib.Seq.{get_or-take, length-take-le}
use lib.Dec.{eqb}
use borrow.Author.Tests.{eq-eqb, ne_eqb}
use Rattle.model.specs.Lists.{numbers_below, any_of}
use Rattle.model.proofs.ListLaws.{how_many_none}
use Rattle.model.proofs.CountLaws.{how_many_below, how_many_one_more}
use Rattle.model.specs.Position.{Position}
use Rattle.rules.specs.Key.{may_enter}
use Rattle.least.specs.Queue.{path_onto, path_to}
use Rattle.queue.specs.WordSets.{in_set}
use Rattle.queue.specs.Queue.{Started}
use Rattle.queue.specs.Written.{route_to, Readable}
use Rattle.queue.proofs.Queued.{queue_in, Queued}

module _ {m : ℕ} {p : Position} {c : ℕ} {words froms enterable : List ℕ} {n : ℕ} (q : Queued m p c words froms enterable n) where
  pub queued_most : n ≤ m
  queued_most = omega (arith, q.counted, how_many_below (λ v. any_of (eqb v) (take n words)) m)

  pub queue_size : length (take n words) ≡ n
  queue_size = length-take-le n words (omega (arith, queued_most, q.room_words))

  pub queue_word : (i : ℕ) → i < n → get_or (take n words) i 0 ≡ get_or words i 0
  queue_word i h = get_or-take n words i 0 h

  -- a route reads the lists no further than the queue goes
  path_in : (k i : ℕ) (l : List ℕ) → i < n → path_onto k (queue_in words froms n) i l ≡ path_onto k (record { words = words; froms = froms }) i l
  unfolding path_onto
  path_in zero i l h = refl
  path_in (suc k) zero l h = ap (λ (w : ℕ). w ∷ l) (queue_word 0 h)
  path_in (suc k) (suc i) l h =
      let f : get_or froms (suc i) 0 < suc i = q.falls (suc i) (omega arith) h in
      ap₂ (λ (j w : ℕ). path_onto k (queue_in words froms n) j (w ∷ l)) (get_or-take n froms (suc i) 0 h) (queue_word (suc i) h) ∙
      path_in k (get_or froms (suc i) 0) (get_or words (suc i) 0 ∷ l) (omega arith)

  pub route_in : (i : ℕ) → i < n → path_to (queue_in words froms n) i ≡ route_to words froms i
  unfolding path_to
  route_in i h = path_in (suc i) i [] h

  pub queued_readable : m ≤ 192 → (i : ℕ) → i < n → Readable words froms i
  queued_readable s i h = record {
    falling = record { inside = omega (arith, queued_most, q.room_froms); falls = λ j p l. q.falls j p (omega arith) };
    inside = omega (arith, queued_most, q.room_words);
    small = λ j l. omega (arith, q.inside j (omega arith));
  }

-- one word is in the queue
pub queued_one : (m : ℕ) (p : Position) (c : ℕ) {words froms enterable : List ℕ} {w n : ℕ} → m ≤ 192 → Started 192 w words froms n → length enterable ≡ 3 → w < m
    → ((v : ℕ) → v < m → in_set enterable v ≡ (may_enter p c v && not (eqb v w))) → Queued m p c words froms enterable n
queued_one m p c {words} {froms} {enterable} {w} {n} few s d h enters = rw s.one record {
  room_words = omega (arith, s.room_words);
  room_froms = omega (arith, s.room_froms);
  blocks = d;
  inside = λ j l. let first : j ≡ 0 = omega arith in rw (first, there) h;
  falls = λ j z l. absurd (omega arith);
  enters = λ v l. enters v l ∙ ap (λ (t : Bool). may_enter p c v && not t) (sym (alone v));
  counted =
      how_many_one_more (λ v. any_of (eqb v) (take 1 words)) (λ v. false) m w h (alone w ∙ eq-eqb w w refl) refl (λ j l d. alone j ∙ ne_eqb j w d) ∙
      ap (λ (k : ℕ). k + 1) (how_many_none (λ v. false) (numbers_below m) (λ v l. refl));
}
  where
    there : get_or words 0 0 ≡ w
    there = sym (get_or-take 1 words 0 0 (omega arith)) ∙ ap (λ (l : List ℕ). get_or l 0 0) s.first_word

    alone : (v : ℕ) → any_of (eqb v) (take 1 words) ≡ eqb v w
    alone v = ap (any_of (eqb v)) s.first_word ∙ or-false (eqb v w)

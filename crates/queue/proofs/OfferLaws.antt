-- An offering of the words that come after a word and may still be entered is the offering of the next words of the older rule, which no home gate
-- shuts, and the lists are a queue again.
-- What comes after on the track, may be entered and is not in the queue is what the table and the set have in common.
use Prim.Native.Nat.{ℕ, ◌+◌, ◌-◌, ◌*◌, ◌≤◌, ◌<◌}
use mathlib.Core.Path.{◌≡◌, refl, sym, ◌∙◌, ap, ap₂}
use mathlib.Core.List.{List, ◌++◌, map, append-nil, append_assoc, Memᴰ}
use mathlib.Core.Bool.{Bool, true, false, not, ◌&&◌, ◌||◌, and-false}
use native.Mathlib.Omega.{arith}
use lib.ListN.{length, get_or, take, drop, length-append, length-map, get_or-append}
use lib.Seq.{get_or-take, length-take-le, take_at, get_or-append-add, length-sets}
use lib.Dec.{eqb, ltb}
use borrow.Author.Tests.{ltb-true, ltb-false, lt-ltb, le-ltb}
use Rattle.model.specs.Lists.{count_up, numbers_below, keep, any_of, how_many, overwritten_at}
use Rattle.model.specs.Track.{zone_of, rev}
use Rattle.model.proofs.BoolLaws.{same_test}
use Rattle.model.proofs.ListLaws.{mem_below, below_mem, mem_count_up, count_up_append, mem_keep, keep_mem, keep_append, keep_ext, keep_none, any_append, any_mem, mem_any}
use Rattle.model.proofs.CountLaws.{how_many_below, how_many_below_ext, how_many_either}
use Rattle.model.proofs.PlaceLaws.{get_or_mem, get_or_map}
use Rattle.model.proofs.StoreLaws.{overwritten_sets}
use Rattle.rules.specs.Key.{may_enter, ungated_steps, nexts_by}
use Rattle.least.specs.Queue.{offer_all}
use Rattle.queue.specs.WordSets.{in_set}
use Rattle.queue.specs.Follows.{BoardTable, in_row, comes_after}
use Rattle.queue.specs.Offers.{QueueRoom, enterable_after, Offered}
use Rattle.queue.proofs.Queued.{zones_only, queue_in, Queued}
use Rattle.queue.proofs.Appending.{offer_row}
use Rattle.queue.proofs.QueueLists.{queued_most}

-- words stored at place n of a list: what is before them, and they themselves

module _ (vs l l' : List ℕ) (n : ℕ) (room : n ≤ length l) (stored : take (n + length vs) l' ≡ take n l ++ vs) where
  stored_before : (j : ℕ) → j < n → get_or l' j 0 ≡ get_or l j 0
  stored_before j h =
      sym (get_or-take (n + length vs) l' j 0 (omega arith)) ∙
      ap (λ (x : List ℕ). get_or x j 0) stored ∙
      get_or-append (take n l) vs 0 j (rw (length-take-le n l room) h) ∙
      get_or-take n l j 0 h

  stored_there : (j : ℕ) → j < length vs → get_or l' (n + j) 0 ≡ get_or vs j 0
  stored_there j h =
      sym (get_or-take (n + length vs) l' (n + j) 0 (omega arith)) ∙
      ap₂ (λ (x : List ℕ) (k : ℕ). get_or x (k + j) 0) stored (sym (length-take-le n l room)) ∙
      get_or-append-add (take n l) vs j 0

-- the list up to the end of what is stored
taken : (vs l l' : List ℕ) (n : ℕ) → n ≤ length l → l' ≡ overwritten_at n vs l → take (n + length vs) l' ≡ take n l ++ vs
taken vs l l' n room e =
    ap (take (n + length vs)) (e ∙ sym (append_assoc (take n l) vs (drop (n + length vs) l))) ∙
    take_at (take n l ++ vs) (drop (n + length vs) l) (n + length vs) (length-append (take n l) vs ∙ ap (λ (k : ℕ). k + length vs) (length-take-le n l room))

-- the list is as long as it was
length_stored : (vs l : List ℕ) (n : ℕ) → n + length vs ≤ length l → length (overwritten_at n vs l) ≡ length l
length_stored vs l n room = ap length (sym (overwritten_sets l n vs room)) ∙ length-sets l n vs

-- tests in another grouping
both_pairs : (a b c d : Bool) → ((a && (b && c)) && d) ≡ ((a && b) && (c && d))
both_pairs true true c d = refl
both_pairs true false c d = refl
both_pairs false b c d = refl

-- no word is both in the queue and new
never_both : (a b : Bool) → (a && (b && not a)) ≡ false
never_both true b = and-false b
never_both false b = refl

-- what is enterable once a part of it is found
less_seen : (e a r : Bool) → ((e && not a) && not r) ≡ (e && not (a || (r && (e && not a))))
less_seen true true r = refl
less_seen true false true = refl
less_seen true false false = refl
less_seen false a r = refl

module _ {zones : ℕ} {ends p follows : List ℕ} (t : BoardTable zones ends p follows) {c last : ℕ} (small : last < 2 * zones)
    {words froms enterable : List ℕ} {found : ℕ} (q : Queued (2 * zones) p c words froms enterable found) where
  abbrev m : ℕ
  m = 2 * zones

  -- in the queue
  abbrev seen : ℕ → Bool
  seen v = any_of (eqb v) (take found words)

  abbrev after : ℕ → Bool
  after v = in_row follows last v && in_set enterable v

  -- a next word that is not in the queue
  abbrev new : ℕ → Bool
  new v = ungated_steps (zones_only zones ends) p c last v && not (seen v)

  abbrev next : List ℕ
  next = enterable_after follows last enterable

  row_at : (v : ℕ) → v < 192 → {b : Bool} → ltb v m ≡ b → in_row follows last v ≡ (b && comes_after ends last v)
  row_at v h e = t.filled.row last v small h ∙ ap (λ (b : Bool). b && comes_after ends last v) e

  new_after : (v : ℕ) → v < m → new v ≡ after v
  new_after v h =
      both_pairs (eqb (get_or ends v 0) (get_or ends (rev last) 0)) (not (eqb (zone_of v) (zone_of last))) (may_enter p c v) (not (seen v)) ∙
      sym (ap₂ (λ (a b : Bool). a && b) (row_at v (omega (arith, t.few)) (lt-ltb v m h)) (q.enters v h))

  next_is : keep new (numbers_below m) ≡ next
  next_is =
      keep_ext new after (numbers_below m) (λ v l. new_after v (mem_below m l)) ∙
      sym (ap (keep after) whole ∙ keep_append after (numbers_below m) (count_up (0 + m) (192 - m)) ∙ ap (λ (l : List ℕ). keep after (numbers_below m) ++ l) (keep_none after (count_up (0 + m) (192 - m)) beyond) ∙ append-nil (keep after (numbers_below m)))
    where
      whole : numbers_below 192 ≡ numbers_below m ++ count_up (0 + m) (192 - m)
      whole =
          let sum : 192 ≡ m + (192 - m) = omega (arith, t.few) in
          ap numbers_below sum ∙ count_up_append 0 m (192 - m)

      beyond : (v : ℕ) → Memᴰ v (count_up (0 + m) (192 - m)) → after v ≡ false
      beyond v l =
          let r = mem_count_up (0 + m) (192 - m) l in
          ap (λ (b : Bool). b && in_set enterable v) (row_at v (omega (arith, r, t.few)) (le-ltb v m (omega (arith, r))))

  any_next : (v : ℕ) → v < m → any_of (eqb v) next ≡ new v
  any_next v h = same_test (any_of (eqb v) next) (after v) there back ∙ sym (new_after v h)
    where
      there : any_of (eqb v) next ≡ true → after v ≡ true
      there e = (mem_keep after (numbers_below 192) (any_mem v next e)).1

      back : after v ≡ true → any_of (eqb v) next ≡ true
      back e = mem_any (keep_mem after (below_mem 192 v (omega (arith, t.few))) e)

  counts : how_many (λ v. seen v || new v) (numbers_below m) ≡ found + length next
  counts =
      how_many_either seen new (numbers_below m) (λ v. never_both (seen v) (ungated_steps (zones_only zones ends) p c last v)) ∙
      ap₂ (λ (a b : ℕ). a + b) q.counted (ap length next_is)

  most : found + length next ≤ m
  most = omega (arith, counts, how_many_below (λ v. seen v || new v) m)

  pub offered_room : QueueRoom next found words froms
  offered_room = record { in_words = omega (arith, most, q.room_words); in_froms = omega (arith, most, q.room_froms) }

  module _ {i : ℕ} (earlier : i < found) {words' froms' enterable' : List ℕ} {r : ℕ} (o : Offered follows last i found words froms enterable words' froms' enterable' r) where
    pub offered_later : i < r
    offered_later = omega (arith, earlier, o.stored.longer)

    words_taken : take (found + length next) words' ≡ take found words ++ next
    words_taken = taken next words words' found (omega (arith, queued_most q, q.room_words)) o.stored.words_stored

    -- what was in the queue stays
    pub offered_before : (j : ℕ) → j < found → get_or words' j 0 ≡ get_or words j 0
    offered_before j h = stored_before next words words' found (omega (arith, queued_most q, q.room_words)) words_taken j h

    froms_taken : take (found + length (map (λ v. i) next)) froms' ≡ take found froms ++ map (λ v. i) next
    froms_taken = taken (map (λ v. i) next) froms froms' found (omega (arith, queued_most q, q.room_froms)) o.stored.froms_stored

    to_end : found + length (map (λ v. i) next) ≡ r
    to_end = ap (λ (k : ℕ). found + k) (length-map next (λ v. i)) ∙ sym o.stored.longer

    pub offered_queue : queue_in words' froms' r ≡ offer_all i (queue_in words froms found) (nexts_by ungated_steps (zones_only zones ends) p c last)
    unfolding nexts_by
    offered_queue =
        ap₂ (λ (a b : List ℕ). record { words = a; froms = b }) (ap (λ (k : ℕ). take k words') o.stored.longer ∙ words_taken) (ap (λ (k : ℕ). take k froms') (sym to_end) ∙ froms_taken) ∙
        ap (λ (l : List ℕ). record { words = take found words ++ l; froms = take found froms ++ map (λ v. i) l }) (sym next_is) ∙
        sym (offer_row (ungated_steps (zones_only zones ends) p c last) i 0 m (queue_in words froms found))

    pub offered_queued : length enterable' ≡ length enterable → Queued m p c words' froms' enterable' r
    offered_queued d = record {
      room_words = omega (arith, length_stored next words found offered_room.in_words, ap length o.stored.words_stored, q.room_words);
      room_froms =
          omega (arith, length_stored (map (λ v. i) next) froms found (rw length-map offered_room.in_froms), ap length o.stored.froms_stored, q.room_froms);
      blocks = d ∙ q.blocks;
      inside = λ j h. inside j h (ltb j found) refl;
      falls = λ j l h. falls j l h (ltb j found) refl;
      enters = enters;
      counted = how_many_below_ext (λ v. any_of (eqb v) (take r words')) (λ v. seen v || new v) m any_taken ∙ counts ∙ sym o.stored.longer;
    }
      where
        any_taken : (v : ℕ) → v < m → any_of (eqb v) (take r words') ≡ (seen v || new v)
        any_taken v h =
            ap (any_of (eqb v)) (ap (λ (k : ℕ). take k words') o.stored.longer ∙ words_taken) ∙
            any_append (eqb v) (take found words) next ∙
            ap (λ (b : Bool). seen v || b) (any_next v h)

        enters : (v : ℕ) → v < m → in_set enterable' v ≡ (may_enter p c v && not (any_of (eqb v) (take r words')))
        enters v h =
            o.still v (omega (arith, t.few)) ∙
            ap (λ (b : Bool). b && not (in_row follows last v)) (q.enters v h) ∙
            less_seen (may_enter p c v) (seen v) (in_row follows last v) ∙
            ap (λ (b : Bool). may_enter p c v && not (seen v || b)) (ap (λ (b : Bool). in_row follows last v && b) (sym (q.enters v h)) ∙ sym (new_after v h)) ∙
            ap (λ (b : Bool). may_enter p c v && not b) (sym (any_taken v h))

        inside : (j : ℕ) → j < r → (b : Bool) → ltb j found ≡ b → get_or words' j 0 < m
        inside j h true e =
            let l : j < found = ltb-true j found e in
            rw (offered_before j l) (q.inside j l)
        inside j h false e =
            let l : found ≤ j = ltb-false j found e in
            let sum : j ≡ found + (j - found) = omega arith in
            let few : j - found < length next = omega (arith, o.stored.longer) in
            let there : get_or words' j 0 ≡ get_or next (j - found) 0 = ap (λ (k : ℕ). get_or words' k 0) sum ∙ stored_there next words words' found (omega (arith, queued_most q, q.room_words)) words_taken (j - found) few in
            rw there (mem_below m (mem_keep new (numbers_below m) (rw next_is (get_or_mem 0 next (j - found) few))).0)

        falls : (j : ℕ) → 0 < j → j < r → (b : Bool) → ltb j found ≡ b → get_or froms' j 0 < j
        falls j z h true e =
            let l : j < found = ltb-true j found e in
            rw (stored_before (map (λ v. i) next) froms froms' found (omega (arith, queued_most q, q.room_froms)) froms_taken j l) (q.falls j z l)
        falls j z h false e =
            let l : found ≤ j = ltb-false j found e in
            let sum : j ≡ found + (j - found) = omega arith in
            let few : j - found < length next = omega (arith, o.stored.longer) in
            let there : get_or froms' j 0 ≡ i =
            ap (λ (k : ℕ). get_or froms' k 0) sum ∙
            stored_there (map (λ v. i) next) froms froms' found (omega (arith, queued_most q, q.room_froms)) froms_taken (j - found) (rw (length-map next (λ v. i)) few) ∙
            get_or_map (λ v. i) next 0 0 (j - found) few in
            rw there (omega arith)

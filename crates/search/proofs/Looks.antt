-- Laws of one carrier's search: the queue from its standing on, a place at a time, to its end.
-- Each place is looked at, and the first that leaves at home is kept. At the end the queue holds all that the carrier reaches, and the route to that
-- place is the least, or there is none.
use Prim.Native.Nat.{ℕ, suc, ◌+◌, ◌*◌, ◌≤◌, ◌<◌}
use mathlib.Core.Path.{◌≡◌, sym, ◌∙◌, ap, subst}
use mathlib.Core.List.{List}
use mathlib.Core.Bool.{true, false, not, ◌&&◌}
use mathlib.Core.Logic.{◌⊎◌, inl, inr}
use mathlib.Core.Option.{none, some}
use native.Mathlib.Omega.{arith}
use native.Mathlib.Nat.{eq-or-lt_of_le, le_of_suc-le-suc}
use native.Mathlib.Numerals.{add-one}
use lib.ListN.{length, get_or}
use lib.Dec.{eqb}
use borrow.Author.Tests.{eq-eqb, ne_eqb}
use Rattle.std.specs.Prelude.{Option as OptionInCode, Some, None}
use Rattle.std.specs.Option.{option_or}
use Rattle.model.specs.Track.{Track, rev}
use Rattle.rules.specs.Search.{least_from}
use Rattle.rules.specs.Key.{may_enter, nexts, nexts_by, leaves_home}
use Rattle.rules.specs.SearchCount.{found_from}
use Rattle.rules.proofs.StepsAfter.{elsewhere_as_before, home_ends}
use Rattle.least.specs.Queue.{Queue, offer_all}
use Rattle.least.proofs.QueueLaws.{offer_all_none}
use Rattle.least.proofs.Explored.{Explored, explored_start, explored_on}
use Rattle.least.proofs.BreadthFirst.{none_least, first_least}
use Rattle.least.proofs.Reachable.{queue_found}
use Rattle.order.proofs.Steps.{nexts_ascending, nexts_below}
use Rattle.queue.specs.WordSets.{in_set}
use Rattle.queue.specs.Queue.{Started}
use Rattle.queue.specs.Offers.{Offered}
use Rattle.queue.specs.Follows.{BoardTable}
use Rattle.queue.proofs.Queued.{queue_in, Queued}
use Rattle.queue.specs.Written.{route_to}
use Rattle.queue.proofs.OfferLaws.{offered_queued, offered_later, offered_before, offered_queue}
use Rattle.queue.proofs.QueueLists.{queued_most, queue_size, queue_word, route_in, queued_one}

-- the first place whose word leaves at home, below i
pub record FirstHome (t : Track) (words : List ℕ) (i place : ℕ) : Type 0 where
  pub below : place < i
  pub at_home : leaves_home t (get_or words place 0) ≡ true
  pub none_earlier : (j : ℕ) → j < place → leaves_home t (get_or words j 0) ≡ false

-- of the places below i the first whose word leaves at home, or none where none does
abbrev pub Arrival : Track → List ℕ → ℕ → OptionInCode ℕ → Type 0
Arrival t words i None = (j : ℕ) → j < i → leaves_home t (get_or words j 0) ≡ false
Arrival t words i (Some place) = FirstHome t words i place

-- the search of one carrier, at place i
pub record Looking (t : Track) (p : List ℕ) (c standing : ℕ) (words froms enterable : List ℕ) (n i : ℕ) (arrival : OptionInCode ℕ) : Type 0 where
  pub queued : Queued (2 * t.zones) p c words froms enterable n
  pub low : i ≤ n
  pub explored : Explored (nexts t p c) (2 * t.zones) standing i (queue_in words froms n)
  pub arrives : Arrival t words i arrival

pub looking_starts : (t : Track) (p : List ℕ) (c standing : ℕ) {words froms enterable : List ℕ} {n : ℕ} → 2 * t.zones ≤ 192 → Started 192 standing words froms n → length enterable ≡ 3 → standing < 2 * t.zones
    → ((v : ℕ) → v < 2 * t.zones → in_set enterable v ≡ (may_enter p c v && not (eqb v standing)))
    → Looking t p c standing words froms enterable n 0 None
looking_starts t p c standing {words} {froms} {enterable} {n} few s d h enters = record {
  queued = queued_one (2 * t.zones) p c few s d h enters;
  low = omega arith;
  explored = rw (s.one, s.first_word, s.first_from) (explored_start (nexts t p c) (2 * t.zones) standing h);
  arrives = λ j l. absurd (omega arith);
}

module _ {t : Track} {p : List ℕ} {c standing : ℕ} {words froms enterable : List ℕ} {n i : ℕ} {arrival : OptionInCode ℕ}
    (l : Looking t p c standing words froms enterable n i arrival) where
  abbrev q : Queue
  q = queue_in words froms n

  -- at the queue's end what was found is what the carrier reaches
  pub looking_count : standing < 2 * t.zones → i ≡ n → n ≡ length (found_from (nexts t p c) (2 * t.zones) standing)
  looking_count h end =
      sym (queue_size l.queued) ∙
      queue_found (nexts t p c) (2 * t.zones) (nexts_below t p c) h l.explored (rw (queue_size l.queued) (omega arith))

  -- a place is left to look at
  module _ (left : i ≡ n → ⊥) where
    pub looking_more : i < n
    looking_more = omega (arith, l.low)

    pub looking_few : i < 2 * t.zones
    looking_few = omega (arith, looking_more, queued_most l.queued)

    pub looking_word : get_or words i 0 < 2 * t.zones
    looking_word = l.queued.inside i looking_more

    explored_more : Explored (nexts t p c) (2 * t.zones) standing (suc i) (offer_all i q (nexts t p c (get_or words i 0)))
    explored_more =
        subst (λ (w : ℕ). Explored (nexts t p c) (2 * t.zones) standing (suc i) (offer_all i q (nexts t p c w))) (queue_word l.queued i looking_more)
        (explored_on (nexts t p c) (2 * t.zones) standing (nexts_ascending t p c) (nexts_below t p c) i l.explored (rw (queue_size l.queued) looking_more))

    -- its word leaves at home: nothing comes after it
    pub looking_home : get_or t.ends (rev (get_or words i 0)) 0 ≡ t.home → Looking t p c standing words froms enterable n (i + 1) (option_or arrival (Some i))
    looking_home home = rw add-one record {
      queued = l.queued;
      low = looking_more;
      explored =
          subst (Explored (nexts t p c) (2 * t.zones) standing (suc i)) (ap (offer_all i q) (home_ends t p c (get_or words i 0) (eq-eqb _ _ home)) ∙ offer_all_none i q)
          explored_more;
      arrives = arrived arrival l.arrives;
    }
      where
        arrived : (a : OptionInCode ℕ) → Arrival t words i a → Arrival t words (suc i) (option_or a (Some i))
        arrived None f = record { below = omega arith; at_home = eq-eqb _ _ home; none_earlier = f }
        arrived (Some place) f = record { below = omega (arith, f.below); at_home = f.at_home; none_earlier = f.none_earlier }

    -- it leaves elsewhere: its next words are offered
    module _ (elsewhere : get_or t.ends (rev (get_or words i 0)) 0 ≡ t.home → ⊥) {follows : List ℕ} (tables : BoardTable t.zones t.ends p follows) {words' froms' enterable' : List ℕ} {r : ℕ}
        (o : Offered follows (get_or words i 0) i n words froms enterable words' froms' enterable' r) (as-enterable : length enterable' ≡ length enterable) where
      -- what is offered is what the rule with the home gate allows
      offered : queue_in words' froms' r ≡ offer_all i q (nexts t p c (get_or words i 0))
      unfolding nexts_by
      offered =
          offered_queue tables looking_word l.queued looking_more o ∙
          ap (offer_all i q) (sym (elsewhere_as_before t p c (get_or words i 0) (ne_eqb _ _ elsewhere)))

      same : (j : ℕ) → j < n → leaves_home t (get_or words' j 0) ≡ leaves_home t (get_or words j 0)
      same j h = ap (leaves_home t) (offered_before tables looking_word l.queued looking_more o j h)

      arrives : (a : OptionInCode ℕ) → Arrival t words i a → Arrival t words' (suc i) a
      arrives None f = λ j h. same j (omega (arith, looking_more)) ∙ go j (eq-or-lt_of_le (le_of_suc-le-suc h))
        where
          go : (j : ℕ) → (j ≡ i) ⊎ (j < i) → leaves_home t (get_or words j 0) ≡ false
          go j (inl e) = ap (λ (k : ℕ). leaves_home t (get_or words k 0)) e ∙ ne_eqb _ _ elsewhere
          go j (inr h) = f j h
      arrives (Some place) f = record {
        below = omega (arith, f.below);
        at_home = same place (omega (arith, f.below, looking_more)) ∙ f.at_home;
        none_earlier = λ j h. same j (omega (arith, f.below, looking_more)) ∙ f.none_earlier j h;
      }

      pub looking_on : Looking t p c standing words' froms' enterable' r (i + 1) arrival
      looking_on = rw add-one record {
        queued = offered_queued tables looking_word l.queued looking_more o as-enterable;
        low = offered_later tables looking_word l.queued looking_more o;
        explored = subst (Explored (nexts t p c) (2 * t.zones) standing (suc i)) (sym offered) explored_more;
        arrives = arrives arrival l.arrives;
      }

-- at the queue's end no word leaves at home: there is no route
pub looking_none : {t : Track} {p : List ℕ} {c standing : ℕ} {words froms enterable : List ℕ} {n i : ℕ} → Looking t p c standing words froms enterable n i None → i ≡ n
    → least_from (nexts t p c) (leaves_home t) (2 * t.zones) standing ≡ none
looking_none {t} {p} {c} {standing} {words} l end =
    none_least (nexts t p c) (leaves_home t) (2 * t.zones) standing l.explored (rw (queue_size l.queued) (omega arith))
    (λ j k.
    let h = rw (queue_size l.queued) at k in
    ap (leaves_home t) (queue_word l.queued j h) ∙ l.arrives j (omega arith))

-- at the queue's end the first place that does is where the least route ends
module _ {t : Track} {p : List ℕ} {c standing : ℕ} {words froms enterable : List ℕ} {n i place : ℕ} (l : Looking t p c standing words froms enterable n i (Some place)) where
  pub looking_arrived : place < n
  looking_arrived = omega (arith, l.arrives.below, l.low)

  pub looking_goal : standing < 2 * t.zones → i ≡ n → least_from (nexts t p c) (leaves_home t) (2 * t.zones) standing ≡ some (route_to words froms place)
  looking_goal h end =
      first_least (nexts t p c) (leaves_home t) (2 * t.zones) standing l.explored (nexts_ascending t p c) (nexts_below t p c) (omega (arith, l.arrives.below))
      (λ j k. ap (leaves_home t) (queue_word l.queued j (omega (arith, looking_arrived))) ∙ l.arrives.none_earlier j k) h (rw (queue_size l.queued) looking_arrived)
      (ap (leaves_home t) (queue_word l.queued place looking_arrived) ∙ l.arrives.at_home) ∙
      ap some (route_in l.queued place looking_arrived)

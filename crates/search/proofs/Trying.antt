-- Laws of the search over the carriers: those left to try decide who goes first, and how many words are still to be counted.
-- A zone that is free is passed; a carrier whose search finds nothing is passed with its words counted; the first whose search finds home goes.
use Prim.Native.Nat.{ℕ, suc, ◌+◌, ◌*◌, ◌≤◌, ◌<◌}
use mathlib.Core.Path.{◌≡◌, sym, ◌∙◌, ap}
use mathlib.Core.List.{List, [], ◌∷◌}
use mathlib.Core.Bool.{Bool, not}
use mathlib.Core.Option.{Option}
use Rattle.std.specs.Prelude.{Option as OptionInCode, Some, None}
use native.Mathlib.Omega.{arith}
use native.Mathlib.Nat.{le_trans, mul-le-mul_right}
use native.Mathlib.Numerals.{add-one}
use lib.ListN.{length, get_or, drop, drop_of_length-le}
use lib.Seq.{drop-cons}
use borrow.Author.Tests.{ne_eqb}
use Rattle.model.specs.Lists.{cons_if, keep}
use Rattle.model.specs.Track.{Track, heading_of, rev}
use Rattle.model.specs.Position.{Position, at, carrier_of, is_free, Stands, outs}
use Rattle.model.proofs.PositionLaws.{held_stands, mem_outs, outs_most}
use Rattle.model.proofs.PlaceLaws.{get_or_mem}
use Rattle.rules.specs.Search.{least_from}
use Rattle.rules.specs.Key.{nexts, leaves_home, least_route, goes_else, first_to_go, first_to_go_by}
use Rattle.rules.specs.SearchCount.{unless_goes, sum_of_lengths, reached, tried, tried_by}
use Rattle.order.proofs.LeastRoute.{least_at}
use Rattle.searchcount.proofs.Reaching.{reached_at}
use Rattle.searchcount.proofs.Most.{tried_most}
use Rattle.carriers.specs.Order.{carriers_in}
use Rattle.queue.specs.WordSets.{Added}
use Rattle.queue.specs.Queue.{Started}
use Rattle.queue.specs.Offers.{Offering}
use Rattle.queue.proofs.OfferLaws.{offered_room}
use Rattle.queue.proofs.QueueLists.{queued_most, queued_readable}
use Rattle.search.specs.Leaving.{Seeking, Sought}
use Rattle.search.proofs.Entering.{first_enterable}
use Rattle.search.proofs.Looks.{Looking, looking_starts, looking_count, looking_none, looking_arrived, looking_goal, looking_more, looking_word}

-- the carriers left to try: those of the held zones in order, from place k on
abbrev left_from : Position → List ℕ → ℕ → List ℕ
left_from p order k = carriers_in p (keep (λ z. not (is_free p z)) (drop k order))

-- the carriers, with the first k zones tried or free, and so many words reached in those tries
pub record Tried (t : Track) (p order : List ℕ) (searched k : ℕ) : Type 0 where
  pub goer : first_to_go t p (left_from p order k) ≡ first_to_go t p (outs p)
  pub counted : searched + sum_of_lengths (tried t p (left_from p order k)) ≡ sum_of_lengths (tried t p (outs p))

module _ {t : Track} {p follows free order : List ℕ} (s : Seeking t p follows free order) where
  pub nobody_goes : {words froms : List ℕ} {searched k : ℕ} → Tried t p order searched k → length order ≤ k → Sought t p words froms (record { departure = None; searched = searched })
  unfolding first_to_go_by tried_by
  nobody_goes {words} {froms} {searched} {k} d e = record {
    entry = ap (first_to_go t p) (sym none_left) ∙ d.goer;
    given = tt;
    searched_is = omega (arith, d.counted, ap (λ (l : List ℕ). sum_of_lengths (tried t p l)) none_left);
  }
    where
      none_left : left_from p order k ≡ []
      none_left = ap (λ (l : List ℕ). carriers_in p (keep (λ z. not (is_free p z)) l)) (drop_of_length-le order {i = k} e)

-- a zone is left to try
pub record Next (t : Track) (p follows free order : List ℕ) (searched k : ℕ) : Type 0 where
  pub seeking : Seeking t p follows free order
  pub tried : Tried t p order searched k
  pub another : k < length order

module _ {t : Track} {p follows free order : List ℕ} {searched k : ℕ} (x : Next t p follows free order searched k) where
  abbrev next_zone : ℕ
  next_zone = get_or order k 0

  pub next_inside : next_zone < length p
  next_inside = x.seeking.in_order.inside _ (get_or_mem 0 order k x.another)

  -- the zone, and those after it
  left_here : {b : Bool} → is_free p next_zone ≡ b → left_from p order k ≡ carriers_in p (cons_if (not b) next_zone (keep (λ z. not (is_free p z)) (drop (suc k) order)))
  left_here e =
      ap (λ (l : List ℕ). carriers_in p (keep (λ z. not (is_free p z)) l)) (drop-cons order k 0 x.another) ∙
      ap (λ (b : Bool). carriers_in p (cons_if (not b) next_zone (keep (λ z. not (is_free p z)) (drop (suc k) order)))) e

-- and its zone is held
pub record HeldNext (t : Track) (p follows free order : List ℕ) (searched k : ℕ) : Type 0 where
  pub next : Next t p follows free order searched k
  pub held : at p (get_or order k 0) ≡ 0 → ⊥

module _ {t : Track} {p follows free order : List ℕ} {searched k : ℕ} (x : HeldNext t p follows free order searched k) where
  abbrev zone : ℕ
  zone = get_or order k 0

  abbrev carrier : ℕ
  carrier = carrier_of (at p zone)

  abbrev standing : ℕ
  standing = 2 * zone + heading_of (at p zone)

  -- those held among the zones after it
  abbrev others : List ℕ
  others = left_from p order (suc k)

  turn_numbered : carrier ≡ 0 → ⊥
  turn_numbered e = omega (arith, x.held, x.next.seeking.laid.free_heading zone)

  pub turn_standing : standing < 2 * t.zones
  turn_standing = omega (arith, next_inside x.next, x.next.seeking.tables.each)

  left_held : left_from p order k ≡ carrier ∷ others
  left_held = left_here x.next (ne_eqb (at p zone) 0 x.held)

  goer_held : goes_else carrier (least_route t p carrier) (first_to_go t p others) ≡ first_to_go t p (outs p)
  unfolding first_to_go_by
  goer_held = ap (first_to_go t p) (sym left_held) ∙ x.next.tried.goer

  counted_held : searched + (length (reached t p carrier) + sum_of_lengths (unless_goes (least_route t p carrier) (tried t p others))) ≡ sum_of_lengths (tried t p (outs p))
  unfolding tried_by
  counted_held = ap (λ (l : List ℕ). searched + sum_of_lengths (tried t p l)) (sym left_held) ∙ x.next.tried.counted

  stands : Stands p carrier standing
  stands = held_stands p zone (next_inside x.next) turn_numbered

  -- the search from its standing decides
  decides : least_route t p carrier ≡ least_from (nexts t p carrier) (leaves_home t) (2 * t.zones) standing
  decides = least_at t x.next.seeking.laid.once stands

  -- all the words of a round are few
  round_few : sum_of_lengths (tried t p (outs p)) ≤ 18432
  round_few =
      le_trans (tried_most t p x.next.seeking.laid (outs p) (λ c m. mem_outs p m))
      (le_trans (mul-le-mul_right (2 * t.zones) few_out) (omega (arith, x.next.seeking.tables.few)))
    where
      few_out : length (outs p) ≤ 96
      few_out = omega (arith, outs_most p, x.next.seeking.tables.each, x.next.seeking.tables.few)

  pub turn_looks : {words froms enterable : List ℕ} {n w : ℕ} → w ≡ rev standing → Added w free enterable → length enterable ≡ 3 → Started 192 standing words froms n
      → Looking t p carrier standing words froms enterable n 0 None
  turn_looks e a b s =
      looking_starts t p carrier standing (omega (arith, x.next.seeking.tables.few)) s b turn_standing
      (λ v h. first_enterable p x.next.seeking.laid.once zone (next_inside x.next) turn_numbered x.next.seeking.free_words e a v (omega (arith, x.next.seeking.tables.each)))

  module _ {words froms enterable : List ℕ} {n i : ℕ} {arrival : OptionInCode ℕ} (l : Looking t p carrier standing words froms enterable n i arrival) where
    pub turn_found : n ≤ 192
    turn_found = omega (arith, queued_most l.queued, x.next.seeking.tables.few)

    turn_count : i ≡ n → n ≡ length (reached t p carrier)
    turn_count end = looking_count l turn_standing end ∙ sym (ap length (reached_at t x.next.seeking.laid.once stands))

    pub turn_few : i ≡ n → searched + n ≤ 18432
    turn_few end = omega (arith, counted_held, turn_count end, round_few)

    -- a place is left to look at
    module _ (left : i ≡ n → ⊥) where
      pub turn_inside : i < length words
      turn_inside = omega (arith, looking_more l left, queued_most l.queued, l.queued.room_words)

      pub turn_offers : Offering follows (get_or words i 0) n words froms enterable
      turn_offers = record {
        row = omega (arith, looking_word l left, x.next.seeking.tables.few, x.next.seeking.tables.rows);
        blocks = l.queued.blocks;
        room = offered_room x.next.seeking.tables (looking_word l left) l.queued;
      }

  -- at the queue's end
  module _ {words froms enterable : List ℕ} {n i searched' : ℕ} (added : searched' ≡ searched + n) (end : i ≡ n) where
    pub turn_past : Looking t p carrier standing words froms enterable n i None → Tried t p order searched' (k + 1)
    turn_past l =
        let none = decides ∙ looking_none l end in
        rw add-one record {
          goer = ap (λ (o : Option (List ℕ)). goes_else carrier o (first_to_go t p others)) (sym none) ∙ goer_held;
          counted = omega (arith, counted_held, turn_count l end, ap (λ (o : Option (List ℕ)). sum_of_lengths (unless_goes o (tried t p others))) none);
        }

    pub turn_goes : {place : ℕ} → Looking t p carrier standing words froms enterable n i (Some place)
        → Sought t p words froms (record { departure = Some (record { zone = zone; place = place }); searched = searched' })
    turn_goes {place} l =
        let least = decides ∙ looking_goal l turn_standing end in
        record {
          entry = ap (λ (o : Option (List ℕ)). goes_else carrier o (first_to_go t p others)) (sym least) ∙ goer_held;
          given = record {
            inside = next_inside x.next;
            numbered = turn_numbered;
            few = omega (arith, looking_arrived l, queued_most l.queued);
            readable = queued_readable l.queued (omega (arith, x.next.seeking.tables.few)) place (looking_arrived l);
          };
          searched_is = omega (arith, counted_held, turn_count l end, ap (λ (o : Option (List ℕ)). sum_of_lengths (unless_goes o (tried t p others))) least);
        }

-- Laws of the rounds: what is written and the run from here make the whole run's plan, and end in its last position; and so for the search count.
-- One round is one step of the key's run; with none left to go, nothing is left of it.
use Prim.Native.Nat.{ℕ, suc, ◌+◌, ◌*◌, ◌≤◌, ◌<◌}
use mathlib.Core.Path.{◌≡◌, refl, sym, ◌∙◌, ap, ap₂, subst}
use mathlib.Core.List.{List, [], ◌∷◌, ◌++◌, append-nil, append_assoc}
use mathlib.Core.Bool.{Bool, true, false, ◌&&◌, ◌||◌, or-true, or-false}
use mathlib.Core.Logic.{⊎_elim}
use native.Mathlib.Omega.{arith}
use native.Mathlib.Nat.{suc-mul, le_trans, mul-le-mul_right}
use lib.ListN.{length, take, drop, set, length-append, length-set}
use lib.Dec.{eqb, ltb}
use lib.Seq.{take-append_seam, drop-append-add, drop-drop, get_or-set_same, get_or-set_other}
use borrow.Author.Tests.{eqb-true, eqb-false, eq-eqb, lt-ltb}
use Rattle.std.specs.Prelude.{Option as OptionInCode, Some, None}
use Rattle.model.specs.Track.{Track, zone_of, heading_of}
use Rattle.model.specs.Position.{Position, at, carrier_of, is_free, Stands, Once, retire, outs}
use Rattle.model.specs.Accepted.{Laid}
use Rattle.model.proofs.BoolLaws.{and_both}
use Rattle.model.proofs.WordLaws.{heading_small, zone_word}
use Rattle.model.proofs.PositionLaws.{laid_retire, held_stands, retire_set, outs_most, outs_retire_length, length_without, without_cases}
use Rattle.rules.specs.Key.{Run, run, plan_words}
use Rattle.rules.specs.SearchCount.{searched}
use Rattle.searchcount.proofs.Most.{searched_most}
use Rattle.queue.specs.WordSets.{in_set, ZoneAdded, FreeWords}
use Rattle.queue.specs.Written.{route_to, entry_of, EntryRoom, EntryWritten}
use Rattle.least.proofs.PathLaws.{path_length}
use Rattle.search.specs.Leaving.{Seeking, entry_given, GivenBy, Sought}
use Rattle.search.specs.Sending.{Prepared, plan_of, SentHome}
use Rattle.search.specs.declared.Departure.{Departure}
use Rattle.search.specs.declared.Outcome.{Outcome}
use Rattle.search.proofs.Retiring.{in_order_retire}
use Rattle.search.proofs.Runs.{run_none, run_step}
use Rattle.search.proofs.CountSteps.{round_within, searched_none, searched_step}

-- the rounds, with the carriers of `written` gone, k words stored and so many words counted
pub record Underway (t : Track) (follows order p₀ plan₀ free p plan : List ℕ) (k counted : ℕ) : Type 0 where
  pub seeking : Seeking t p follows free order
  pub carriers_small : (z : ℕ) → at p z < 131072
  pub same_plan : length plan ≡ length plan₀
  pub written : List ℕ
  pub here : length written ≡ k
  pub stored : plan ≡ written ++ drop k plan₀
  pub room : k + length (outs p) * (2 + 2 * t.zones) ≤ length plan₀
  pub rest_plan : written ++ plan_of t p ≡ plan_of t p₀
  pub rest_last : (run t p).last ≡ (run t p₀).last
  pub rest_count : counted + searched t p ≡ searched t p₀
  pub count_few : searched t p₀ ≤ 893952

-- at most 96 zones and as many carriers
few_searched : (t : Track) (p : Position) → Laid t p → t.zones ≤ 96 → searched t p ≤ 893952
few_searched t p laid few =
    le_trans (searched_most t p laid)
    (le_trans (mul-le-mul_right (length (outs p) + 1) (le_trans (mul-le-mul_right (length (outs p)) few) (omega (arith, outs_most p, laid.each))))
    (let most : 9216 * (length (outs p) + 1) ≤ 893952 = omega (arith, outs_most p, laid.each) in most))

pub underway_starts : {t : Track} {p follows free order plan : List ℕ} → Prepared t p follows free order plan → Underway t follows order p plan free p plan 0 0
underway_starts {t} {p} m = record {
  seeking = m.seeking;
  carriers_small = m.carriers_small;
  same_plan = refl;
  written = [];
  here = refl;
  stored = refl;
  room = omega (arith, m.room);
  rest_plan = refl;
  rest_last = refl;
  rest_count = omega arith;
  count_few = few_searched t p m.seeking.laid m.seeking.tables.few;
}

module _ {t : Track} {follows order p₀ plan₀ free p plan : List ℕ} {k counted : ℕ} (u : Underway t follows order p₀ plan₀ free p plan k counted) {words froms : List ℕ} where
  pub underway_few : {r : Outcome} → Sought t p words froms r → counted + r.searched ≤ 893952
  underway_few s = omega (arith, s.searched_is, round_within t p, u.rest_count, u.count_few)

  -- nobody can go: nothing is left of the run, and all is counted
  pub underway_nobody : {found : ℕ} → Sought t p words froms (record { departure = None; searched = found })
      → SentHome t p₀ plan₀ p plan (record { planned = k; searched = counted + found })
  unfolding plan_words
  underway_nobody s = record {
    planned = sym u.here ∙ ap length all;
    written = u.stored ∙ ap₂ (λ (w : List ℕ) (n : ℕ). w ++ drop n plan₀) all (sym u.here ∙ ap length all);
    last = ap (λ (r : Run). r.last) (sym ends) ∙ u.rest_last;
    searched_is = omega (arith, s.searched_is, searched_none t p (sym s.entry), u.rest_count);
  }
    where
      ends : run t p ≡ record { plan = []; last = p }
      ends = run_none t p (sym s.entry)

      all : u.written ≡ plan_of t p₀
      all = sym (append-nil u.written) ∙ ap (λ (r : Run). u.written ++ plan_words r.plan) (sym ends) ∙ u.rest_plan

-- who leaves is known
pub sought_at : {t : Track} {p words froms : List ℕ} {r : Outcome} (a : OptionInCode Departure) → r.departure ≡ a → Sought t p words froms r → Sought t p words froms (record { departure = a; searched = r.searched })
sought_at {t} {p} {words} {froms} a e s = record {
  entry = ap (entry_given p words froms) (sym e) ∙ s.entry;
  given = subst (GivenBy t.zones p words froms) e s.given;
  searched_is = s.searched_is;
}

-- one of the carriers left goes
pub record OneGoes (t : Track) (follows order p₀ plan₀ free p plan : List ℕ) (k counted : ℕ) (words froms : List ℕ) (d : Departure) (found : ℕ) : Type 0 where
  pub underway : Underway t follows order p₀ plan₀ free p plan k counted
  pub sought : Sought t p words froms (record { departure = Some d; searched = found })

module _ {t : Track} {follows order p₀ plan₀ free p plan : List ℕ} {k counted : ℕ} {words froms : List ℕ} {d : Departure} {found : ℕ}
    (x : OneGoes t follows order p₀ plan₀ free p plan k counted words froms d found) where
  abbrev u : Underway t follows order p₀ plan₀ free p plan k counted
  u = x.underway

  abbrev zone : ℕ
  zone = d.zone

  abbrev carrier : ℕ
  carrier = carrier_of (at p zone)

  abbrev entry : List ℕ
  entry = entry_of carrier (route_to words froms d.place)

  pub goes_inside : zone < length p
  goes_inside = x.sought.given.inside

  once : Once p
  once = u.seeking.laid.once

  stands : Stands p carrier (2 * zone + heading_of (at p zone))
  stands = held_stands p zone goes_inside x.sought.given.numbered

  -- one fewer is out then
  pub goes_fewer : length (outs (retire carrier p)) + 1 ≡ length (outs p)
  goes_fewer = outs_retire_length carrier p once (_, stands)

  one_entry : length (outs p) * (2 + 2 * t.zones) ≡ length (outs (retire carrier p)) * (2 + 2 * t.zones) + (2 + 2 * t.zones)
  one_entry =
      let back : length (outs p) ≡ suc (length (outs (retire carrier p))) = omega (arith, goes_fewer) in
      ap (λ (n : ℕ). n * (2 + 2 * t.zones)) back ∙ suc-mul (length (outs (retire carrier p))) (2 + 2 * t.zones)

  -- there is room for its entry, whatever number of 16 bits it is under, and from an earlier place on all the more
  pub goes_entry : (c m : ℕ) → c < 65536 → m ≤ k → EntryRoom c d.place words froms plan m
  goes_entry c m small early = record {
    readable = x.sought.given.readable;
    carrier_small = small;
    few = omega (arith, x.sought.given.few, u.seeking.tables.few);
    room = omega (arith, x.sought.given.few, one_entry, u.room, u.same_plan);
  }

  freed : retire carrier p ≡ set p zone 0
  freed = retire_set once stands ∙ ap (λ (z : ℕ). set p z 0) (zone_word zone (heading_of (at p zone)) (heading_small (at p zone)))

  pub goes_smaller : length (outs (set p zone 0)) < length (outs p)
  goes_smaller = rw (← freed) (omega (arith, goes_fewer))

  step : run t p ≡ record { plan = record { carrier = carrier; words = route_to words froms d.place } ∷ (run t (retire carrier p)).plan; last = (run t (retire carrier p)).last }
  step = run_step t p (sym x.sought.entry) goes_fewer

  step_count : searched t p ≡ found + searched t (retire carrier p)
  step_count = searched_step t p (sym x.sought.entry) goes_fewer ∙ ap (λ (n : ℕ). n + searched t (retire carrier p)) (sym x.sought.searched_is)

  -- the zone's words are free then
  freed_words : {free' : List ℕ} → ZoneAdded zone free free' → FreeWords (retire carrier p) free'
  freed_words {free'} a = rw freed record { has = λ v. has v (eqb (zone_of v) zone) refl }
    where
      same : length (set p zone 0) ≡ length p
      same = length-set p zone 0

      has : (v : ℕ) (t : Bool) → eqb (zone_of v) zone ≡ t → in_set free' v ≡ (ltb (zone_of v) (length (set p zone 0)) && is_free (set p zone 0) (zone_of v))
      has v true e =
          let here : zone_of v ≡ zone = eqb-true (zone_of v) zone e in
          a.has v ∙ ap (λ (b : Bool). in_set free v || b) e ∙ or-true (in_set free v) ∙
          sym (and_both _ _ (lt-ltb (zone_of v) (length (set p zone 0)) (rw (here, same) goes_inside)) (eq-eqb _ _ (ap (at (set p zone 0)) here ∙ get_or-set_same p zone 0 0 goes_inside)))
      has v false e =
          a.has v ∙ ap (λ (b : Bool). in_set free v || b) e ∙ or-false (in_set free v) ∙
          u.seeking.free_words.has v ∙
          ap₂ (λ (n x : ℕ). ltb (zone_of v) n && eqb x 0) (sym same) (sym (get_or-set_other p zone (zone_of v) 0 0 (eqb-false (zone_of v) zone e)))

  retired_seeking : {free' : List ℕ} → ZoneAdded zone free free' → length free' ≡ length free → Seeking t (retire carrier p) follows free' order
  retired_seeking a b = record {
    laid = laid_retire t carrier p u.seeking.laid;
    tables = record { few = u.seeking.tables.few; each = length_without (eqb carrier) p ∙ u.seeking.tables.each; both = u.seeking.tables.both; rows = u.seeking.tables.rows; filled = u.seeking.tables.filled };
    blocks = b ∙ u.seeking.blocks;
    free_words = freed_words a;
    in_order = in_order_retire carrier once u.seeking.in_order;
  }

  module _ {plan' free' : List ℕ} {r : ℕ} (w : EntryWritten carrier d.place words froms plan k plan' r) (as-plan : length plan' ≡ length plan) (added : ZoneAdded zone free free') (as-free : length free' ≡ length free) where
    retired : Underway t follows order p₀ plan₀ free' (retire carrier p) plan' r (counted + found)
    unfolding plan_words
    retired = record {
      seeking = retired_seeking added as-free;
      carriers_small = λ z. ⊎_elim (λ e. rw e (u.carriers_small z)) (λ e. rw e.1 (omega arith)) (without_cases (eqb carrier) p z);
      same_plan = as-plan ∙ u.same_plan;
      written = u.written ++ entry;
      here = length-append u.written entry ∙ ap (λ (n : ℕ). n + length entry) u.here ∙ sym w.next;
      stored = stored;
      room = omega (arith, w.next, path_length (record { words = words; froms = froms }) d.place, x.sought.given.few, one_entry, u.room);
      rest_plan = append_assoc u.written entry (plan_of t (retire carrier p)) ∙ ap (λ (y : Run). u.written ++ plan_words y.plan) (sym step) ∙ u.rest_plan;
      rest_last = ap (λ (y : Run). y.last) (sym step) ∙ u.rest_last;
      rest_count = omega (arith, step_count, u.rest_count);
      count_few = u.count_few;
    }
      where
        before : take k plan ≡ u.written
        before = ap₂ (λ (n : ℕ) (l : List ℕ). take n l) (sym u.here) u.stored ∙ take-append_seam u.written (drop k plan₀)

        beyond : drop (k + length entry) plan ≡ drop r plan₀
        beyond =
            ap₂ (λ (n : ℕ) (l : List ℕ). drop (n + length entry) l) (sym u.here) u.stored ∙
            drop-append-add u.written (drop k plan₀) (length entry) ∙
            drop-drop (length entry) k plan₀ ∙
            ap (λ (n : ℕ). drop n plan₀) (sym w.next)

        stored : plan' ≡ (u.written ++ entry) ++ drop r plan₀
        stored = w.stored ∙ ap₂ (λ (a b : List ℕ). a ++ (entry ++ b)) before beyond ∙ sym (append_assoc u.written entry (drop r plan₀))

    pub goes_more : Underway t follows order p₀ plan₀ free' (set p zone 0) plan' r (counted + found)
    goes_more = subst (λ (y : Position). Underway t follows order p₀ plan₀ free' y plan' r (counted + found)) freed retired

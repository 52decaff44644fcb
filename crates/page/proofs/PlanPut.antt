-- A plan put, entry by entry: the loop over the plan's words.
-- `Planning` is its invariant: the words left are those of the entries whose lines are left to write.
use Prim.Native.Nat.{ℕ, ◌-◌, ◌≤◌, ◌<◌}
use mathlib.Core.Path.{◌≡◌, ap, ap₂, ◌∙◌}
use mathlib.Core.List.{List, [], ◌∷◌}
use native.Mathlib.Omega.{arith}
use lib.ListN.{length, take, drop, get_or, length-append}
use lib.Seq.{take-append_seam, drop-append_seam}
use Rattle.rules.specs.Routes.{Entry}
use Rattle.rules.specs.Key.{plan_words}
use Rattle.page.specs.declared.writing.Writing.{Writing}
use Rattle.page.specs.Page.{spelled, labelled, word_text, spaced, entry_line, entry_lines}
use Rattle.page.specs.Writing.{TextRoom, Put, entries_in}
use Rattle.page.proofs.PutLaws.{Putting, starts, room_left, ◌then◌, goes_in, ends}
use Rattle.page.proofs.PlanLaws.{NextEntry, next_entry, no_entry}

abbrev pub entry_pieces : Entry → List (List ℕ)
entry_pieces e = labelled (spelled "home ") e.carrier ∷ spelled ":" ∷ spaced word_text e.words ∷ spelled "\n" ∷ []

pub entry_starts : (e : Entry) {w : Writing} → TextRoom (entry_line e) w → Putting (entry_line e) w (entry_pieces e) w
unfolding entry_line
entry_starts e room = starts (entry_pieces e) room

pub record Planning (plan : List ℕ) (before : Writing) (left : List ℕ) (w : Writing) : Type 0 where
  pub entries : List Entry
  pub words : left ≡ plan_words entries
  pub going : Putting (entry_lines (entries_in plan)) before (entry_lines entries ∷ []) w

module _ {plan left : List ℕ} {before w : Writing} (p : Planning plan before left w) where
  pub planning_ends : length left < 2 → Put (entry_lines (entries_in plan)) before w
  unfolding entry_lines
  planning_ends few = ends (goes_in [] (rw (no_entry left p.entries p.words few) at p.going))

  module _ (long : 2 ≤ length left) where
    found : NextEntry left p.entries
    found = next_entry left p.entries p.words long

    -- the words of this entry are among those left
    pub entry_inside : get_or left 1 0 ≤ length (take (length left - 2) (drop 2 left))
    entry_inside = omega (arith, found.count, ap length found.after, length-append found.entry.words (plan_words found.rest))

    turning : Putting (entry_lines (entries_in plan)) before (entry_line found.entry ∷ entry_lines found.rest ∷ []) w
    unfolding entry_lines
    turning = goes_in (entry_line found.entry ∷ entry_lines found.rest ∷ []) (rw found.split at p.going)

    module _ {words : List ℕ} (front : words ≡ take (get_or left 1 0) (take (length left - 2) (drop 2 left))) where
      same_entry : record { carrier = get_or left 0 0; words = words } ≡ found.entry
      same_entry =
          ap₂ {C = Entry} (λ (c : ℕ) (ws : List ℕ). record { carrier = c; words = ws }) found.carrier
          (front ∙ ap₂ (λ (n : ℕ) (l : List ℕ). take n l) found.count found.after ∙ take-append_seam found.entry.words (plan_words found.rest))

      pub entry_room : TextRoom (entry_line (record { carrier = get_or left 0 0; words = words })) w
      entry_room = rw same_entry (room_left turning)

      pub planning_again : {rest : List ℕ} {v : Writing} → rest ≡ drop (get_or left 1 0) (take (length left - 2) (drop 2 left))
          → Put (entry_line (record { carrier = get_or left 0 0; words = words })) w v → Planning plan before rest v
      planning_again back put = record {
        entries = found.rest;
        words = back ∙ ap₂ (λ (n : ℕ) (l : List ℕ). drop n l) found.count found.after ∙ drop-append_seam found.entry.words (plan_words found.rest);
        going = turning then (rw same_entry at put);
      }

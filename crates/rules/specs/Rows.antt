-- Rows of tables: an input of the key and the collapse, or of the marker, with what the documents give it; where the home gate shows, by the
-- older moving rule too; what the key of a refused board would be; and what is reached in the key's tries. The definitions are computed on each
-- row: proofs/RowsHold.antt.
use Rattle.std.specs.Prelude.{ℕ, List, [], map, ◌≡◌}
use Rattle.model.specs.Labels.{parts, join_zones, join_points}
use Rattle.model.specs.Layout.{stride}
use Rattle.model.specs.Reading.{refusal, too_short, wrong_length, wrong_version, out_of_range, wrong_count, bad_zone, repeated, under_two, apart, track_said, position_said, carrier_in}
use Rattle.rules.specs.Search.{least_from, words_to, goal_in}
use Rattle.rules.specs.Key.{KeyAnswer, turned_back, ungated_steps, key_of, key_of_by, key_in_by, key_for, key_for_by, named_by, run_by, run_for_by, first_to_go_by, least_route_by, zone_for, nexts, nexts_by, plan_words}
use Rattle.rules.specs.SearchCount.{found_from, reached_by, tried_by, tries_for_by, tries_by, tries, searched_by, searched}
use Rattle.rules.specs.Collapse.{CollapseAnswer, collapse_of, collapse_in, left, merge_all, merge_zone, joined, turns, loop_in, free_parts}
use Rattle.rules.specs.Sheet.{mark_of, mark_of_by, mark_for_by, mark_claim_by, same_list, mark_entries_by, mark_entry_by, mark_end, ends_home, by_rules_by, follow_by, still_out}

-- a board, the room lent for plan and list, and what the key and the collapse give; or a board and a sheet with its number; the same with its
-- number by the older rule; or a board, a carrier and a word with the words that the carrier may go to from there, by the older rule and now;
-- or a refused board, its number, and the key of the track and the position that its bytes say all the same; or a board with the words reached in
-- each try, and the search count by the older rule and now
pub data Row : Type 0 where
  on_board : (bytes : List ℕ) (planRoom listRoom : ℕ) (key : KeyAnswer) (collapse : CollapseAnswer) → Row
  on_sheet : (bytes words : List ℕ) (number : ℕ) → Row
  at_gate : (bytes words : List ℕ) (older now : ℕ) → Row
  from_word : (bytes : List ℕ) (carrier word : ℕ) (older now : List ℕ) → Row
  on_refused : (bytes : List ℕ) (number : ℕ) (key : KeyAnswer) → Row
  in_tries : (bytes : List ℕ) (tries : List (List ℕ)) (older now : ℕ) → Row

pub data Answer : Type 0 where
  of_board : KeyAnswer → CollapseAnswer → Answer
  of_sheet : ℕ → Answer
  of_gate : ℕ → ℕ → Answer
  of_word : List ℕ → List ℕ → Answer
  of_refused : ℕ → KeyAnswer → Answer
  of_tries : List (List ℕ) → ℕ → ℕ → Answer

-- what the definitions give, computed
unfoldable pub given : Row → Answer
unfolding key_of_by key_in_by key_for_by named_by run_by run_for_by first_to_go_by least_route_by zone_for nexts_by plan_words least_from words_to goal_in collapse_of collapse_in left merge_all merge_zone joined turns loop_in free_parts parts join_zones join_points refusal too_short wrong_length wrong_version out_of_range wrong_count bad_zone repeated under_two apart track_said position_said stride carrier_in mark_of_by mark_for_by mark_claim_by same_list mark_entries_by mark_entry_by mark_end ends_home by_rules_by follow_by still_out found_from reached_by tried_by tries_for_by tries_by searched_by
given (on_board b m n k c) = of_board (key_of b m n) (collapse_of b n)
given (on_sheet b ws n) = of_sheet (mark_of b ws)
given (at_gate b ws o n) = of_gate (mark_of_by ungated_steps b ws) (mark_of b ws)
given (from_word b c w o n) = of_word (nexts_by ungated_steps (track_said b) (position_said b) c w) (nexts (track_said b) (position_said b) c w)
given (on_refused b n k) = of_refused (refusal b) (key_for (track_said b) (position_said b))
given (in_tries b ws o n) = of_tries (tries (track_said b) (position_said b)) (searched_by ungated_steps (track_said b) (position_said b)) (searched (track_said b) (position_said b))

-- what the row says
abbrev pub said : Row → Answer
said (on_board b m n k c) = of_board k c
said (on_sheet b ws n) = of_sheet n
said (at_gate b ws o n) = of_gate o n
said (from_word b c w o n) = of_word o n
said (on_refused b n k) = of_refused n k
said (in_tries b ws o n) = of_tries ws o n

abbrev pub Hold : List Row → Type 0
Hold rows = map given rows ≡ map said rows

-- an accepted board with room for plan and list: its verdict, plan and list; the collapse leaves the same list
abbrev pub accepted_board : List ℕ → ℕ → List ℕ → List ℕ → Row
accepted_board b verdict plan list = on_board b 96 8 (record { verdict = verdict; plan = plan; list = list }) (record { number = 0; list = list })

-- a board that the key and the collapse turn back with one of 1 to 9
abbrev pub refused_board : List ℕ → ℕ → Row
refused_board b n = on_board b 96 8 (turned_back n) (record { number = n; list = [] })

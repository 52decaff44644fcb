-- The page of board K, whole, as document 01 shows it, and of K in version 2; of boards with two carriers blocked; of a board that is turned back.
-- antt computes each from the definitions.
use mathlib.Core.Path.{◌≡◌, refl}
use mathlib.Core.List.{[], ◌∷◌, map}
use lib.ListN.{replicate}
use Rattle.model.specs.Labels.{parts, join_zones, join_points}
use Rattle.model.specs.Layout.{stride}
use Rattle.model.specs.Reading.{refusal, too_short, wrong_length, wrong_version, out_of_range, wrong_count, bad_zone, repeated, under_two, apart, track_said, position_said, carrier_in}
use Rattle.rules.specs.Search.{least_from, words_to, goal_in}
use Rattle.rules.specs.Starred.{board_t}
use Rattle.rules.specs.Table.{board_k}
use Rattle.rules.specs.WideCarriers.{wide_t, wide_k}
use Rattle.rules.specs.Key.{named_by, run_by, run_for_by, first_to_go_by, least_route_by, zone_for, nexts_by}
use Rattle.page.specs.Page.{spelled, digits_of, decimal, word_text, spaced, entry_line, entry_lines, blocked_text, first_lines, key_page, refused_page, page_for, page_of}

-- in both versions
pub page_of_k : let page = spelled "board 2 points 2 zones 1 out\nverdict 0\nhome 7: 0+ 1-\nblocked none\n" in map page_of (board_k ∷ wide_k 0 7 0 ∷ []) ≡ page ∷ page ∷ []
unfolding board_k board_t page_of page_for refused_page key_page first_lines blocked_text entry_lines entry_line spaced word_text decimal digits_of named_by run_by run_for_by first_to_go_by least_route_by zone_for nexts_by least_from words_to goal_in parts join_zones join_points refusal too_short wrong_length wrong_version out_of_range wrong_count bad_zone repeated under_two apart track_said position_said stride carrier_in
page_of_k = refl

-- board T with carriers 7 and 109, both heading 0; in version 2 with 7 and 263
pub page_of_blocked : map page_of (board_t 7 0 109 0 ∷ wide_t 0 7 0 1 7 0 ∷ []) ≡ spelled "board 2 points 2 zones 2 out\nverdict 20\nblocked 7 109\n" ∷ spelled "board 2 points 2 zones 2 out\nverdict 20\nblocked 7 263\n" ∷ []
unfolding board_t page_of page_for refused_page key_page first_lines blocked_text entry_lines entry_line spaced word_text decimal digits_of named_by run_by run_for_by first_to_go_by least_route_by zone_for nexts_by least_from words_to goal_in parts join_zones join_points refusal too_short wrong_length wrong_version out_of_range wrong_count bad_zone repeated under_two apart track_said position_said stride carrier_in
page_of_blocked = refl

pub page_of_refused : page_of (0x00 ∷ 0x0C ∷ 0x01 ∷ []) ≡ spelled "refused 1\n"
unfolding page_of refused_page decimal digits_of refusal too_short
page_of_refused = refl

-- 486 bytes are not too many; these are turned back for another reason
pub page_of_longest : page_of (replicate 486 0) ≡ spelled "refused 2\n"
unfolding page_of refused_page decimal digits_of refusal too_short wrong_length
page_of_longest = refl

pub page_of_too_long : page_of (replicate 487 0) ≡ spelled "too long\n"
unfolding page_of
page_of_too_long = refl

pub numbers_in_decimal : map decimal (0 ∷ 9 ∷ 10 ∷ 96 ∷ 100 ∷ 255 ∷ 1000 ∷ 65535 ∷ []) ≡ spelled "0" ∷ spelled "9" ∷ spelled "10" ∷ spelled "96" ∷ spelled "100" ∷ spelled "255" ∷ spelled "1000" ∷ spelled "65535" ∷ []
unfolding decimal digits_of
numbers_in_decimal = refl

-- The collapse, laid out as document 01 does: free parts, joining once from the parts as first found, merging repeatedly. No route in it.
use Rattle.std.specs.Prelude.{ℕ, ◌*◌, Bool, true, false, cond, not, ◌&&◌, length, get_or, set, replicate, leb, ltb, eqb}
use mathlib.Core.List.{List, [], map, foldl}
use Rattle.model.specs.Lists.{numbers_below, keep, how_many, n_times, ascending}
use Rattle.model.specs.Track.{Track, start, leave}
use Rattle.model.specs.Position.{Position, at, carrier_of, is_free, outs, standing}
use Rattle.model.specs.Labels.{label, join_points, join_zones, parts}
use Rattle.model.specs.Reading.{refusal, track_said, position_said}

module _ (t : Track) (p : Position) where
  -- the free parts, as labels of points
  unfoldable pub free_parts : List ℕ
  free_parts = parts t (is_free p)

  -- the part with label l holds a loop: at least as many free zones as points
  unfoldable pub loop_in : List ℕ → ℕ → Bool
  loop_in ls l =
      leb (how_many (λ q. eqb (label ls q) l) (numbers_below t.points))
      (how_many (λ z. is_free p z && eqb (label ls (start t (2 * z))) l) (numbers_below t.zones))

  -- a held zone whose carrier heads into a part with a loop, by these labels
  unfoldable pub turns : List ℕ → ℕ → Bool
  turns ls z = not (is_free p z) && loop_in ls (label ls (leave t (standing p z)))

  -- for each such carrier its two ends are joined, once, from the parts as first found
  unfoldable pub joined : List ℕ
  joined = let ls = free_parts in join_zones t (turns ls) ls

-- labels of points, and for each zone whether it was merged
pub record Merging : Type 0 where
  pub labels : List ℕ
  pub merged : List Bool

module _ (t : Track) (p : Position) where
  -- a held zone leading into home's part
  abbrev pub leads_home : List ℕ → ℕ → Bool
  leads_home ls z = not (is_free p z) && eqb (label ls (leave t (standing p z))) (label ls t.home)

  abbrev pub merge_if : Bool → Merging → ℕ → Merging
  merge_if false m z = m
  merge_if true m z = record { labels = join_points m.labels (start t (standing p z)) t.home; merged = set m.merged z true }

  -- such a zone is merged: the part at its other end becomes one with home's
  unfoldable pub merge_zone : Merging → ℕ → Merging
  merge_zone m z = merge_if (leads_home m.labels z) m z

  -- repeatedly: C times over all zones, and by then none is left to merge (`settled_all`, blocking/proofs/Rounds.antt)
  unfoldable pub merge_all : Merging
  merge_all =
      n_times (length (outs p)) (λ m. foldl merge_zone m (numbers_below t.zones))
      (record { labels = joined t p; merged = replicate t.zones false })

  -- the carriers never merged, ascending
  unfoldable pub left : List ℕ
  left =
      let m = merge_all in
      ascending (map (λ z. carrier_of (at p z)) (keep (λ z. not (is_free p z) && not (get_or m.merged z false)) (numbers_below t.zones)))

-- what the collapse gives: its number, and the carriers written to the list
pub record CollapseAnswer : Type 0 where
  pub number : ℕ
  pub list : List ℕ

-- row 11: the list lent has under C words
unfoldable pub collapse_in : Track → Position → ℕ → CollapseAnswer
collapse_in t p listRoom =
    let l = left t p in
    cond (ltb listRoom (length (outs p))) (record { number = 11; list = [] }) (record { number = 0; list = l })

-- the collapse of a board in bytes, with room for so many carriers lent: 1 to 9 and 11 as the key
unfoldable pub collapse_of : List ℕ → ℕ → CollapseAnswer
collapse_of b listRoom =
    let c = collapse_in (track_said b) (position_said b) listRoom in
    cond (eqb (refusal b) 0) c (record { number = refusal b; list = [] })

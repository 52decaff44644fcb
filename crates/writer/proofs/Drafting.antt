-- The bytes of a board drafted one after another: the head, each entry, and the entries in turn.
-- What was stored is the definition's list, written out by the version; the loop over the zones by the laws of stores.
use Prim.Native.Nat.{ℕ, suc, ◌+◌, ◌-◌, ◌*◌, ◌/◌, ◌%◌, ◌≤◌, ◌<◌}
use native.Mathlib.Omega.{arith}
use native.Mathlib.Nat.{mul-suc, mul-le-mul, mul-le-mul_left}
use native.Mathlib.Numerals.{add-one}
use mathlib.Core.List.{List, [], ◌∷◌, ◌++◌, map, flatten, map-append, append_assoc, append-nil}
use mathlib.Core.Path.{◌≡◌, refl, sym, ◌∙◌, ap, ap₂}
use mathlib.Core.Bool.{Bool, true, false, cond}
use lib.ListN.{length, drop}
use lib.Seq.{sets, length-sets}
use Rattle.model.specs.declared.Head.{Head}
use Rattle.model.specs.Layout.{stride, length_of, entry_from, high_byte, low_byte}
use Rattle.model.specs.Lists.{numbers_below, overwritten, overwritten_at}
use Rattle.model.specs.Track.{Track, track_of, heading_of, start}
use Rattle.model.specs.Position.{Position, at, carrier_of}
use Rattle.model.proofs.LayoutLaws.{stride_most}
use Rattle.model.proofs.ListLaws.{length_below, below_suc}
use Rattle.model.proofs.StoreLaws.{sets_append, overwritten_sets}
use Rattle.faircopy.specs.BoardBytes.{head_bytes, entry_byte, entry_bytes, board_bytes}
use Rattle.faircopy.proofs.BytesSaid.{length_entry}
use Rattle.faircopy.proofs.Entries.{length_entries}
use Rattle.writer.specs.Drafting.{all_entries}

-- so many zones have few bytes
pub few_bytes : (v : Bool) {n : ℕ} → n ≤ 96 → stride v * n ≤ 480
few_bytes v h = mul-le-mul (stride_most v) h

-- the head
pub head_drafted : (head : Head) (v : Bool) {from version : ℕ} (draft : List ℕ) → from ≡ entry_from v head.zones → version ≡ cond v 2 1
    → ((from - 2) / 256 ∷ (from - 2) % 256 ∷ version ∷ head.points ∷ head.home ∷ head.zones ∷ []) ++ drop 6 draft
    ≡ overwritten (head_bytes v head.points head.home head.zones) draft
unfolding head_bytes
head_drafted head v {from} {version} draft starts said =
    let length-is : from - 2 ≡ length_of v head.zones = omega arith in
    λ i. (high_byte (length-is i) ∷ low_byte (length-is i) ∷ said i ∷ head.points ∷ head.home ∷ head.zones ∷ []) ++ drop 6 draft

-- an entry, by the version

module _ (t : Track) (p : Position) (z : ℕ) {v : Bool} where
  pub wide_bytes : v ≡ true → start t (2 * z) ∷ start t (2 * z + 1) ∷ high_byte (carrier_of (at p z)) ∷ low_byte (carrier_of (at p z)) ∷ heading_of (at p z) ∷ [] ≡ entry_bytes v t p z
  unfolding entry_bytes entry_byte stride
  wide_bytes e = rw e

  pub narrow_bytes : v ≡ false → start t (2 * z) ∷ start t (2 * z + 1) ∷ low_byte (carrier_of (at p z)) ∷ heading_of (at p z) ∷ [] ≡ entry_bytes v t p z
  unfolding entry_bytes entry_byte stride
  narrow_bytes e = rw e

-- the entries in turn

flatten_last : (ls : List (List ℕ)) (l : List ℕ) → flatten (ls ++ (l ∷ [])) ≡ flatten ls ++ l
unfolding flatten
flatten_last [] l = append-nil l
flatten_last (a ∷ ls) l = ap (λ (r : List ℕ). a ++ r) (flatten_last ls l) ∙ sym (append_assoc a (flatten ls) l)

module _ (v : Bool) (t : Track) (p : Position) where
  pub length_entries_of : (n : ℕ) → length (all_entries v t p n) ≡ stride v * n
  length_entries_of n = length_entries (entry_bytes v t p) (stride v) (length_entry v t p) (numbers_below n) ∙ ap (λ (k : ℕ). stride v * k) (length_below n)

  -- one more
  entries_next : (n : ℕ) → all_entries v t p (n + 1) ≡ all_entries v t p n ++ entry_bytes v t p n
  entries_next n =
      ap (λ (k : ℕ). flatten (map (entry_bytes v t p) (numbers_below k))) (add-one n) ∙
      ap (λ (l : List ℕ). flatten (map (entry_bytes v t p) l)) (below_suc n) ∙
      ap flatten (map-append (entry_bytes v t p) (numbers_below n) (n ∷ [])) ∙
      flatten_last (map (entry_bytes v t p) (numbers_below n)) (entry_bytes v t p n)

  -- what holds while the entries of the first z zones are drafted
  pub record Drafting (lent draft : List ℕ) (z : ℕ) : Type 0 where
    pub stored : draft ≡ sets lent 6 (all_entries v t p z)

  pub drafting_starts : (draft : List ℕ) → Drafting draft draft 0
  unfolding flatten
  drafting_starts draft = record { stored = refl }

  module _ {lent draft : List ℕ} {z : ℕ} (room : entry_from v t.zones ≤ length lent) (g : Drafting lent draft z) where
    -- the next entry fits
    entry_room : z < t.zones → entry_from v z + stride v ≤ length draft
    entry_room h =
        omega (arith, ap length g.stored, length-sets lent 6 (all_entries v t p z), mul-suc (stride v) z, mul-le-mul_left {m = suc z} {n = t.zones} (stride v) h)

    pub drafting_on : z < t.zones → {draft' : List ℕ} → draft' ≡ overwritten_at (entry_from v z) (entry_bytes v t p z) draft → Drafting lent draft' (z + 1)
    drafting_on h {draft'} e = record {
      stored =
          e ∙
          sym (overwritten_sets draft (entry_from v z) (entry_bytes v t p z) (let l = length_entry v t p z in let r = entry_room h in omega arith)) ∙
          ap₂ (λ (l : List ℕ) (i : ℕ). sets l i (entry_bytes v t p z)) g.stored (let l = length_entries_of z in let q : entry_from v z ≡ 6 + length (all_entries v t p z) = omega arith in q) ∙
          sym (sets_append lent 6 (all_entries v t p z) (entry_bytes v t p z)) ∙
          ap (sets lent 6) (sym (entries_next z));
    }

    pub drafting_ends : z ≡ t.zones → draft ≡ overwritten_at 6 (all_entries v t p t.zones) lent
    drafting_ends e =
        g.stored ∙ ap (λ (n : ℕ). sets lent 6 (all_entries v t p n)) e ∙ overwritten_sets lent 6 (all_entries v t p t.zones) (let l = length_entries_of t.zones in omega arith)

-- the head, and then the entries

pub board_drafted : (v : Bool) (head : Head) (ends : List ℕ) (p : Position) (draft₀ : List ℕ) {draft₁ draft₂ : List ℕ} → entry_from v head.zones ≤ length draft₀
    → draft₁ ≡ overwritten (head_bytes v head.points head.home head.zones) draft₀
    → draft₂ ≡ overwritten_at 6 (all_entries v (track_of head ends) p head.zones) draft₁
    → draft₂ ≡ overwritten (board_bytes v (track_of head ends) p) draft₀
unfolding board_bytes head_bytes
board_drafted v head ends p draft₀ {draft₁} {draft₂} room first rest =
    let E = all_entries v (track_of head ends) p head.zones in
    let H = head_bytes v head.points head.home head.zones in
    let long : length E ≡ stride v * head.zones = length_entries_of v (track_of head ends) p head.zones in
    let begun : draft₁ ≡ sets draft₀ 0 H = first ∙ sym (overwritten_sets draft₀ 0 H (omega arith)) in
    let as_long : length draft₁ ≡ length draft₀ = ap length begun ∙ length-sets draft₀ 0 H in
    rest ∙
    sym (overwritten_sets draft₁ 6 E (omega arith)) ∙
    ap (λ (l : List ℕ). sets l 6 E) begun ∙
    sym (sets_append draft₀ 0 H E) ∙
    overwritten_sets draft₀ 0 (H ++ E) (omega arith) ∙
    ap (λ (n : ℕ). (H ++ E) ++ drop n draft₀) (let q : 0 + length (H ++ E) ≡ length (H ++ E) = omega arith in q)

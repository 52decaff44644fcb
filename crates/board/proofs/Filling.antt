-- Filling an array from the front: what it holds after each store, and that at the end it is the board's list made long enough by zeros.
-- The list is split at the place that is stored to.
use Prim.Native.Nat.{ℕ, suc, ◌+◌, ◌-◌, ◌*◌, ◌≤◌, ◌<◌}
use native.Mathlib.Omega.{arith}
use native.Mathlib.Numerals.{add-one}
use mathlib.Core.List.{List, [], ◌∷◌, ◌++◌, map, map-append, append_assoc}
use mathlib.Core.Path.{◌≡◌, sym, ◌∙◌, ap, ap₂}
use lib.ListN.{length, set, replicate, length-map}
use lib.Seq.{set_at}
use Rattle.model.specs.Lists.{numbers_below}
use Rattle.model.specs.Reading.{end_a, end_b, track_said, position_said, zones_said, carrier_in, heading_in, end_said}
use Rattle.model.specs.Track.{zone_of}
use Rattle.model.proofs.ListLaws.{length_below, below_suc}
use Rattle.model.proofs.ReadingLaws.{said_a, said_b}
use Rattle.board.specs.Given.{padded}
use Rattle.board.specs.declared.input.Zone.{Zone}
use Rattle.board.specs.Inner.{ByteAt, ZoneAt}

-- n places: f of each of the first w, then zeros
abbrev pub filled : ℕ → (ℕ → ℕ) → ℕ → List ℕ
filled n f w = map f (numbers_below w) ++ replicate (n - w) 0

pub length_mapped : (f : ℕ → ℕ) (w : ℕ) → length (map f (numbers_below w)) ≡ w
length_mapped f w = length-map (numbers_below w) f ∙ length_below w

pub map_next : (f : ℕ → ℕ) (n : ℕ) → map f (numbers_below (n + 1)) ≡ map f (numbers_below n) ++ (f n ∷ [])
map_next f n = ap (λ (k : ℕ). map f (numbers_below k)) (add-one n) ∙ ap (map f) (below_suc n) ∙ map-append f (numbers_below n) (n ∷ [])

zeros_next : (n w : ℕ) → w < n → ◌≡◌ {A = List ℕ} (replicate (n - w) 0) (0 ∷ replicate (n - (w + 1)) 0)
zeros_next n w l = ap (λ (k : ℕ). replicate k 0) (let e : n - w ≡ suc (n - (w + 1)) = omega arith in e)

pub filled_next : (n : ℕ) (f : ℕ → ℕ) (w : ℕ) → w < n → set (filled n f w) w (f w) ≡ filled n f (w + 1)
filled_next n f w l =
    ap (λ (r : List ℕ). set (map f (numbers_below w) ++ r) w (f w)) (zeros_next n w l) ∙
    set_at (map f (numbers_below w)) 0 (replicate (n - (w + 1)) 0) (f w) w (length_mapped f w) ∙
    sym (ap (λ (r : List ℕ). r ++ replicate (n - (w + 1)) 0) (map_next f w) ∙ append_assoc (map f (numbers_below w)) (f w ∷ []) (replicate (n - (w + 1)) 0))

padded_is : (n : ℕ) (f : ℕ → ℕ) (w : ℕ) → padded n (map f (numbers_below w)) ≡ filled n f w
unfolding padded
padded_is n f w = ap (λ (k : ℕ). map f (numbers_below w) ++ replicate (n - k) 0) (length_mapped f w)

pub ends_filled : (b : List ℕ) → padded 192 (track_said b).ends ≡ filled 192 (end_said b) (2 * zones_said b)
unfolding track_said
ends_filled b = padded_is 192 (end_said b) (2 * zones_said b)

-- what a zone holds, as the bytes say it
abbrev pub held_said : List ℕ → ℕ → ℕ
held_said b z = 2 * carrier_in b z + heading_in b z

pub position_filled : (b : List ℕ) → padded 96 (position_said b) ≡ filled 96 (held_said b) (zones_said b)
unfolding position_said
position_filled b = padded_is 96 (held_said b) (zones_said b)

-- a turn of the loop, and its end

pub few_zones : {b : List ℕ} {n z : ℕ} → zones_said b ≤ 96 → ByteAt b 5 n → z < n → z < 96
few_zones {b} {n} {z} few N l = let s : n ≡ zones_said b = N.is in omega arith

-- the ends of a zone are where its two words start
module _ {b : List ℕ} {z : ℕ} {r : Zone} (Z : ZoneAt b z r) where
  pub first_end : r.a ≡ end_said b (2 * z)
  first_end = Z.a_is ∙ ap (end_a b) (let e : z ≡ zone_of (2 * z) = omega arith in e) ∙ sym (said_a b (2 * z) (omega arith))

  pub second_end : r.b ≡ end_said b (2 * z + 1)
  second_end = Z.b_is ∙ ap (end_b b) (let e : z ≡ zone_of (2 * z + 1) = omega arith in e) ∙ sym (said_b b (2 * z + 1) (omega arith))

pub ends_next : {b e : List ℕ} {z : ℕ} {said : Zone} → e ≡ filled 192 (end_said b) (2 * z) → ZoneAt b z said → z < 96
    → set (set e (2 * z) said.a) (2 * z + 1) said.b ≡ filled 192 (end_said b) (2 * (z + 1))
ends_next {b} {e} {z} {said} h Z l =
    ap (λ (r : List ℕ). set r (2 * z + 1) said.b) (ap₂ (λ (r : List ℕ) (v : ℕ). set r (2 * z) v) h (first_end Z) ∙ filled_next 192 (end_said b) (2 * z) (omega arith)) ∙
    ap (set (filled 192 (end_said b) (2 * z + 1)) (2 * z + 1)) (second_end Z) ∙
    filled_next 192 (end_said b) (2 * z + 1) (omega arith) ∙
    ap (filled 192 (end_said b)) (let n : 2 * z + 1 + 1 ≡ 2 * (z + 1) = omega arith in n)

pub ends_last : {b e : List ℕ} {z n : ℕ} → e ≡ filled 192 (end_said b) (2 * z) → ByteAt b 5 n → z ≤ n → n ≤ z → e ≡ padded 192 (track_said b).ends
ends_last {b} {e} {z} {n} h N i j = h ∙ ap (filled 192 (end_said b)) (let s : n ≡ zones_said b = N.is in let q : 2 * z ≡ 2 * zones_said b = omega arith in q) ∙ sym (ends_filled b)

pub position_next : {b e : List ℕ} {z : ℕ} {said : Zone} → e ≡ filled 96 (held_said b) z → ZoneAt b z said → z < 96 → set e z (2 * said.carrier + said.heading) ≡ filled 96 (held_said b) (z + 1)
position_next {b} {e} {z} f Z l = rw (f, Z.carrier_is, Z.heading_is) (filled_next 96 (held_said b) z l)

pub position_last : {b e : List ℕ} {z n : ℕ} → e ≡ filled 96 (held_said b) z → ByteAt b 5 n → z ≤ n → n ≤ z → e ≡ padded 96 (position_said b)
position_last {b} {e} {z} {n} h N i j = h ∙ ap (filled 96 (held_said b)) (let s : n ≡ zones_said b = N.is in let q : z ≡ zones_said b = omega arith in q) ∙ sym (position_filled b)

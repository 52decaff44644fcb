-- Zone ends at the points of a part: k × points at least, where each point has k; at most 2 × zones + 1, where besides the two ends of each of its
-- zones there is one more. The first by one point more at a time, the second by the words that start there.
use Prim.Native.Nat.{ℕ, zero, suc, ◌+◌, ◌*◌, ◌≤◌, ◌<◌}
use mathlib.Core.List.{List, [], ◌∷◌}
use mathlib.Core.Path.{◌≡◌, refl, sym, ◌∙◌, ap}
use mathlib.Core.Logic.{◌⊎◌, ⊎_elim}
use mathlib.Core.Bool.{Bool, true, false, ◌&&◌, ◌||◌}
use native.Mathlib.Omega.{arith}
use native.Mathlib.Nat.{mul-suc, mul-one}
use lib.ListN.{length}
use lib.Dec.{eqb}
use borrow.Author.Tests.{eqb-true, eq-eqb, ne_eqb}
use Rattle.model.specs.Lists.{numbers_below, how_many}
use Rattle.model.specs.Track.{Track, zone_of, start, leave}
use Rattle.model.proofs.BoolLaws.{same_test, or_left, or_right}
use Rattle.model.proofs.ListLaws.{how_many_ext, how_many_mono, mem_below}
use Rattle.model.proofs.CountLaws.{how_many_below_pass, how_many_below_skip, how_many_one_more, how_many_either}
use Rattle.model.proofs.PlaceLaws.{how_many_places}
use Rattle.turning.proofs.Members.{elem, elem_here, elem_there}
use Rattle.turning.proofs.OneMore.{among}
use Rattle.turning.proofs.Part.{Part, alone, new_point, both_inside}

-- a new member of a list of numbers is counted besides the others
counted_more : (b : ℕ) (ps l : List ℕ) → elem b ps ≡ false → how_many (among (b ∷ ps)) l ≡ how_many (eqb b) l + how_many (among ps) l
counted_more b ps l new = how_many_either (λ x. eqb x b) (among ps) l apart ∙ ap (λ (n : ℕ). n + how_many (among ps) l) (how_many_ext (λ x. eqb x b) (eqb b) l (λ x m. turned x))
  where
    turned : (x : ℕ) → eqb x b ≡ eqb b x
    turned x = same_test (eqb x b) (eqb b x) (λ e. eq-eqb b x (sym (eqb-true x b e))) (λ e. eq-eqb x b (sym (eqb-true b x e)))

    apart : (x : ℕ) → (eqb x b && elem x ps) ≡ false
    apart x = by (eqb x b) refl
      where
        by : (s : Bool) → eqb x b ≡ s → (s && elem x ps) ≡ false
        by true e = ap (λ (y : ℕ). elem y ps) (eqb-true x b e) ∙ new
        by false e = refl

-- where each point of a part stands in a list at least k times, points of the part stand there at least k × points times
pub often_each : {t : Track} {passes : ℕ → Bool} {v : ℕ} {zs ps : List ℕ} → Part t passes v zs ps → (l : List ℕ) {k : ℕ} → ((q : ℕ) → elem q ps ≡ true → k ≤ how_many (eqb q) l) → k * length ps ≤ how_many (among ps) l
often_each {v = v} alone l {k} h = omega (arith, counted_more v [] l refl, h v (elem_here v []), mul-one k)
often_each {t} (new_point {ps = ps} w b e s n part) l {k} h =
    omega
    (arith, counted_more (leave t w) ps l n, h (leave t w) (elem_here (leave t w) ps), mul-suc k (length ps), often_each part l (λ q i. h q (elem_there q (leave t w) ps i)))
often_each (both_inside w b e s i n part) l h = often_each part l h

-- each number is the zone of two words
two_words : (g : ℕ → Bool) (n : ℕ) → how_many (λ u. g (zone_of u)) (numbers_below (2 * n)) ≡ 2 * how_many g (numbers_below n)
two_words g zero = refl
two_words g (suc n) = ap (λ (m : ℕ). how_many by_zone (numbers_below m)) next ∙ both (g n) refl (two_words g n)
  where
    by_zone : ℕ → Bool
    by_zone u = g (zone_of u)

    next : 2 * suc n ≡ suc (suc (2 * n))
    next = omega arith

    first : zone_of (2 * n) ≡ n
    first = omega arith

    second : zone_of (suc (2 * n)) ≡ n
    second = omega arith

    both : (b : Bool) → g n ≡ b → how_many by_zone (numbers_below (2 * n)) ≡ 2 * how_many g (numbers_below n) → how_many by_zone (numbers_below (suc (suc (2 * n)))) ≡ 2 * how_many g (numbers_below (suc n))
    both true e ih =
        omega
        (arith, ih, how_many_below_pass by_zone (suc (2 * n)) (ap g second ∙ e), how_many_below_pass by_zone (2 * n) (ap g first ∙ e), how_many_below_pass g n e)
    both false e ih =
        omega
        (arith, ih, how_many_below_skip by_zone (suc (2 * n)) (ap g second ∙ e), how_many_below_skip by_zone (2 * n) (ap g first ∙ e), how_many_below_skip g n e)

-- where each word that starts at a point that passes is u or of a zone that passes, there are at most two such ends for each zone, and one more
pub ends_few : (t : Track) → length t.ends ≡ 2 * t.zones → (points zones : ℕ → Bool) (u : ℕ) → u < 2 * t.zones → zones (zone_of u) ≡ false → ((w : ℕ) → w < 2 * t.zones → points (start t w) ≡ true → (w ≡ u) ⊎ (zones (zone_of w) ≡ true)) → how_many points t.ends ≤ 2 * how_many zones (numbers_below t.zones) + 1
ends_few t count points zones u h new either =
    omega (arith, at_words, how_many_mono starts or_this (numbers_below (2 * t.zones)) (λ w m. covered w (mem_below (2 * t.zones) m)), one_more_lem, two_words zones t.zones)
  where
    starts : ℕ → Bool
    starts w = points (start t w)

    or_this : ℕ → Bool
    or_this w = eqb w u || zones (zone_of w)

    at_words : how_many points t.ends ≡ how_many starts (numbers_below (2 * t.zones))
    at_words = how_many_places points t.ends ∙ ap (λ (n : ℕ). how_many starts (numbers_below n)) count

    covered : (w : ℕ) → w < 2 * t.zones → starts w ≡ true → or_this w ≡ true
    covered w b e = ⊎_elim (λ i. or_left (eqb w u) (zones (zone_of w)) (eq-eqb w u i)) (or_right (eqb w u) (zones (zone_of w))) (either w b e)

    one_more_lem : how_many or_this (numbers_below (2 * t.zones)) ≡ how_many (λ w. zones (zone_of w)) (numbers_below (2 * t.zones)) + 1
    one_more_lem = how_many_one_more or_this (λ w. zones (zone_of w)) (2 * t.zones) u h (or_left (eqb u u) (zones (zone_of u)) (eq-eqb u u refl)) new (λ w b d. rw (ne_eqb w u d))

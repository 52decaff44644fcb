-- A position looked through for a carrier's zone: the first place that std finds is the definition's zone, and where it finds none there is none.
-- Both are the first below the count of zones that passes the test. `LookedTo` is the loop's invariant: what is found among the zones left is what is
-- found in all.
use Prim.Native.Nat.{ℕ, suc, ◌+◌, ◌-◌, ◌≤◌}
use mathlib.Core.Path.{◌≡◌, refl, ◌∙◌, sym, ap}
use mathlib.Core.Bool.{Bool, true, false, cond, not, ◌||◌}
use mathlib.Core.List.{List, [], ◌∷◌}
use mathlib.Core.Option.{Option, none, some}
use native.Mathlib.Omega.{arith}
use lib.ListN.{length, take, drop}
use lib.Dec.{eqb, ltb}
use borrow.Author.Tests.{lt-ltb, le-ltb, ltb-true, ltb-false}
use Rattle.std.specs.Prelude.{slice_index_or, Some, None, Option as OptionInCode}
use Rattle.std.specs.List.{position, position_or_len}
use Rattle.std.specs.Option.{option_map}
use Rattle.std.proofs.Math.Seq.{take-length}
use Rattle.std.proofs.lemmas.Grind.{common_steps}
use Rattle.std.proofs.lemmas.List.Sums.{position_or_len_is}
use Rattle.model.specs.Lists.{first, numbers_below}
use Rattle.model.specs.Position.{Position, at, carrier_of}
use Rattle.model.proofs.BoolLaws.{or_false_left, or_false_right}
use Rattle.model.proofs.ListLaws.{first_below, first_below_none}
use Rattle.rules.specs.Key.{zone_for}
use Rattle.mover.specs.MoveTried.{option_in}

module _ (p : Position) (c : ℕ) where
  -- the number of a zone is the carrier's
  abbrev pub is_of : ℕ → Bool
  is_of v = eqb (carrier_of v) c

  -- the place that std finds, by where none before it passes
  found_at : (n : ℕ) → position_or_len is_of p ≡ n → position is_of p ≡ cond (ltb n (length p)) (Some n) None
  found_at n e = ap (λ (k : ℕ). cond {A = OptionInCode ℕ} (ltb k (length p)) (Some k) None) e

  pub zone_looked : option_in (position is_of p) ≡ zone_for p c
  unfolding zone_for
  zone_looked = sym (go (first (λ z. is_of (at p z)) (numbers_below (length p))) refl)
    where
      go : (o : Option ℕ) → first (λ z. is_of (at p z)) (numbers_below (length p)) ≡ o → first (λ z. is_of (at p z)) (numbers_below (length p)) ≡ option_in (position is_of p)
      go none e =
          let all = first_below_none (λ z. is_of (at p z)) (length p) e in
          let at_end = position_or_len_is is_of p (length p) 0 (omega arith) all (λ h. absurd (omega arith)) in
          e ∙ sym (ap option_in (found_at (length p) at_end ∙ ap (λ (b : Bool). cond {A = OptionInCode ℕ} b (Some (length p)) None) (le-ltb (length p) (length p) (omega arith))))
      go (some z) e =
          let f = first_below (λ z. is_of (at p z)) (length p) e in
          let here = position_or_len_is is_of p z 0 (omega (arith, f.small)) f.none_lower (λ _. f.passes) in
          e ∙ sym (ap option_in (found_at z here ∙ ap (λ (b : Bool). cond {A = OptionInCode ℕ} b (Some z) None) (lt-ltb z (length p) f.small)))

-- how far a position was looked through: the first of the zones left that passes is the first of all, counted from where they begin
pub record LookedTo (p : Position) (c : ℕ) (left : List ℕ) : Type 0 where
  pub shorter : length left ≤ length p
  pub place : position_or_len (is_of p c) p + length left ≡ length p + position_or_len (is_of p c) left

pub looked_none : (p : Position) (c : ℕ) → LookedTo p c p
looked_none p c = record { shorter = omega arith; place = omega arith }

one_passed : (f : ℕ → Bool) (a : ℕ) (l : List ℕ) → f a ≡ false → position_or_len f (a ∷ l) ≡ suc (position_or_len f l)
one_passed f a l e = ap (λ (b : Bool). cond (not b) (1 + position_or_len f l) 0) e ∙ omega arith

four_passed : (f : ℕ → Bool) (l : List ℕ) → 4 ≤ length l → (((f (slice_index_or l 0 0) || f (slice_index_or l 1 0)) || f (slice_index_or l 2 0)) || f (slice_index_or l 3 0)) ≡ false
    → position_or_len f l ≡ 4 + position_or_len f (take (length l - 4) (drop 4 l))
four_passed f [] h e = absurd (omega arith)
four_passed f (a ∷ []) h e = absurd (omega arith)
four_passed f (a ∷ b ∷ []) h e = absurd (omega arith)
four_passed f (a ∷ b ∷ c ∷ []) h e = absurd (omega arith)
four_passed f (a ∷ b ∷ c ∷ d ∷ l) h e =
    let abc = or_false_left ((f a || f b) || f c) (f d) e in
    let ab = or_false_left (f a || f b) (f c) abc in
    let four : suc (suc (suc (suc (length l)))) - 4 ≡ length l = omega arith in
    let rest : take (suc (suc (suc (suc (length l)))) - 4) l ≡ l = ap (λ (n : ℕ). take n l) four ∙ take-length l in
    one_passed f a (b ∷ c ∷ d ∷ l) (or_false_left (f a) (f b) ab)
    ∙ ap suc (one_passed f b (c ∷ d ∷ l) (or_false_right (f a) (f b) ab)
    ∙ ap suc (one_passed f c (d ∷ l) (or_false_right (f a || f b) (f c) abc)
    ∙ ap suc (one_passed f d l (or_false_right ((f a || f b) || f c) (f d) e))))
    ∙ sym (ap (λ (k : List ℕ). 4 + position_or_len f k) rest ∙ omega arith)

pub four_looked : {p : Position} (c : ℕ) {left : List ℕ} → LookedTo p c left → 4 ≤ length left
    → (((is_of p c (slice_index_or left 0 0) || is_of p c (slice_index_or left 1 0)) || is_of p c (slice_index_or left 2 0)) || is_of p c (slice_index_or left 3 0)) ≡ false
    → LookedTo p c (take (length left - 4) (drop 4 left))
four_looked {p} c {left} r h e =
    let moved = four_passed (is_of p c) left h e in
    let fewer : length (take (length left - 4) (drop 4 left)) ≡ length left - 4 = grind (arith, common_steps) in
    record { shorter = omega (arith, r.shorter, fewer); place = omega (arith, r.place, moved, fewer, h) }

-- where the looking ends: the zone found among those left, moved by how many were passed, is that of all
found_moved : {p : Position} (c : ℕ) {left : List ℕ} → LookedTo p c left → position (is_of p c) p ≡ option_map (λ (z : ℕ). (length p - length left) + z) (position (is_of p c) left)
found_moved {p} c {left} r = go (ltb m (length left)) refl
  where
    m : ℕ
    m = position_or_len (is_of p c) left

    n : ℕ
    n = position_or_len (is_of p c) p

    go : (t : Bool) → ltb m (length left) ≡ t → position (is_of p c) p ≡ option_map (λ (z : ℕ). (length p - length left) + z) (cond {A = OptionInCode ℕ} t (Some m) None)
    go true e =
        let within = ltb-true m (length left) e in
        found_at p c n refl ∙ ap (λ (b : Bool). cond {A = OptionInCode ℕ} b (Some n) None) (lt-ltb n (length p) (omega (arith, r.place, within))) ∙ ap Some (omega (arith, r.place, r.shorter, within))
    go false e =
        let past = ltb-false m (length left) e in
        found_at p c n refl ∙ ap (λ (b : Bool). cond {A = OptionInCode ℕ} b (Some n) None) (le-ltb n (length p) (omega (arith, r.place, past)))

pub found_in : {p : Position} (c : ℕ) {left : List ℕ} {found o : OptionInCode ℕ} → LookedTo p c left → found ≡ position (is_of p c) left → found ≡ o
    → option_in (option_map (λ (z : ℕ). (length p - length left) + z) o) ≡ zone_for p c
found_in {p} c {left} r looked is =
    ap (λ (o : OptionInCode ℕ). option_in (option_map (λ (z : ℕ). (length p - length left) + z) o)) (sym is ∙ looked) ∙ ap option_in (sym (found_moved c r)) ∙ zone_looked p c

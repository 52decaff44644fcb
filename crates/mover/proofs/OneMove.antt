-- The move that a pair of a log says, case by case as the code finds it: a carrier that is out stands in the zone that was found, and its move is
-- tested there; where it is allowed, the carrier's zone is freed and the one entered filled.
-- From the laws of the tested move; to take a carrier off is to free its zone, since it stands in no other.
use Prim.Native.Nat.{ℕ, ◌+◌, ◌*◌}
use mathlib.Core.Path.{◌≡◌, refl, sym, ap, ◌∙◌}
use mathlib.Core.Bool.{Bool, true, false, cond}
use mathlib.Core.Option.{Option, none, some}
use native.Mathlib.Omega.{arith}
use lib.ListN.{set}
use lib.Dec.{eqb}
use borrow.Author.Tests.{eq-eqb, ne_eqb}
use Rattle.model.specs.Track.{Track, zone_of, heading_of, leave}
use Rattle.model.specs.Position.{Position, Stands, Once, standing, retire}
use Rattle.model.proofs.PositionLaws.{retire_set}
use Rattle.model.proofs.MoveLaws.{moved_to}
use Rattle.rules.specs.Tries.{Move, into, home}
use Rattle.rules.specs.Key.{zone_for}
use Rattle.rules.specs.SingleMoves.{moves_who, zone_out, may_go_from, left_if, after_move_from, after_move}
use Rattle.rules.proofs.Standing.{zone_stands}
use Rattle.rules.proofs.MoveTested.{after_into, after_home}
use Rattle.movelog.specs.Log.{home_word, move_said}
use Rattle.mover.specs.MoveTried.{is_done, left_or, MoveTried}

-- the outcome of a move by what it leaves
outcome : (t : Track) (p : Position) (m : Move) (o : Option Position) → after_move t p m ≡ o → MoveTried t p m (is_done o) (left_or p o)
outcome t p m o e = record { done_is = sym (ap is_done e); left_is = sym (ap (left_or p) e) }

move_home : {c w : ℕ} → w ≡ home_word → move_said c w ≡ home c
unfolding move_said
move_home {c} {w} e = ap (λ (b : Bool). cond b (home c) (into c w)) (eq-eqb w home_word e)

move_into : {c w : ℕ} → (w ≡ home_word → ⊥) → move_said c w ≡ into c w
unfolding move_said
move_into {c} {w} n = ap (λ (b : Bool). cond b (home c) (into c w)) (ne_eqb w home_word n)

-- a carrier that isn't out

says_who : (c w : ℕ) → moves_who (move_said c w) ≡ c
unfolding move_said
says_who c w = go (eqb w home_word)
  where
    go : (b : Bool) → moves_who (cond b (home c) (into c w)) ≡ c
    go true = refl
    go false = refl

not_out : (t : Track) (p : Position) (c w : ℕ) → zone_out p c ≡ none → MoveTried t p (move_said c w) false p
unfolding after_move
not_out t p c w e = outcome t p (move_said c w) none (ap (λ (d : ℕ). after_move_from t p (move_said c w) (zone_out p d)) (says_who c w) ∙ ap (after_move_from t p (move_said c w)) e)

pub zero_stays : (t : Track) (p : Position) (c w : ℕ) → c ≡ 0 → MoveTried t p (move_said c w) false p
zero_stays t p c w e = not_out t p c w (ap (λ (b : Bool). cond b none (zone_for p c)) (eq-eqb c 0 e))

pub missing_stays : (t : Track) (p : Position) (c w : ℕ) → zone_for p c ≡ none → MoveTried t p (move_said c w) false p
missing_stays t p c w e = not_out t p c w (go (eqb c 0))
  where
    go : (b : Bool) → cond b none (zone_for p c) ≡ none
    go true = refl
    go false = e

-- a carrier that is out

-- it stands in this zone
pub record OutIn (p : Position) (c z : ℕ) : Type 0 where
  pub stands : Stands p c (standing p z)

pub out_in : {p : Position} {c z : ℕ} → (c ≡ 0 → ⊥) → zone_for p c ≡ some z → OutIn p c z
out_in {p} {c} {z} numbered found = record { stands = zone_stands p c z numbered found }

module _ (t : Track) {p : Position} {c z : ℕ} (once : Once p) (out : OutIn p c z) where
  -- its zone is freed
  freed : retire c p ≡ set p z 0
  freed = retire_set once out.stands ∙ ap (λ (y : ℕ). set p y 0) (let e : zone_of (standing p z) ≡ z = omega arith in e)

  module _ {w point : ℕ} (leaves : point ≡ leave t (standing p z)) where
    pub home_stays : w ≡ home_word → (point ≡ t.home → ⊥) → MoveTried t p (move_said c w) false p
    home_stays e n =
        let elsewhere = ne_eqb (leave t (standing p z)) t.home (λ q. n (leaves ∙ q)) in
        rw (move_home {c = c} e) (outcome t p (home c) none (after_home t p once out.stands ∙ ap (λ (b : Bool). left_if b (retire c p)) elsewhere))

    pub home_goes : w ≡ home_word → point ≡ t.home → MoveTried t p (move_said c w) true (set p z 0)
    home_goes e q =
        let there = eq-eqb (leave t (standing p z)) t.home (sym leaves ∙ q) in
        rw (move_home {c = c} e)
        (outcome t p (home c) (some (set p z 0)) (after_home t p once out.stands ∙ ap (λ (b : Bool). left_if b (retire c p)) there ∙ ap some freed))

    module _ (n : w ≡ home_word → ⊥) {b : Bool} (tested : b ≡ may_go_from t p point w) where
      into_left : (x : Bool) → b ≡ x → after_move t p (into c w) ≡ left_if x (set (set p z 0) (zone_of w) (2 * c + heading_of w))
      into_left x e =
          after_into t p w once out.stands ∙ ap (λ (y : ℕ). left_if (may_go_from t p y w) (moved_to p c w)) (sym leaves)
          ∙ ap (λ (y : Bool). left_if y (moved_to p c w)) (sym tested ∙ e) ∙ ap (λ (q : Position). left_if x (set q (zone_of w) (2 * c + heading_of w))) freed

      pub into_stays : b ≡ false → MoveTried t p (move_said c w) false p
      into_stays e = rw (move_into {c = c} n) (outcome t p (into c w) none (into_left false e))

      pub into_goes : b ≡ true → MoveTried t p (move_said c w) true (set (set p z 0) (zone_of w) (2 * c + heading_of w))
      into_goes e = rw (move_into {c = c} n) (outcome t p (into c w) (some (set (set p z 0) (zone_of w) (2 * c + heading_of w))) (into_left true e))

-- What the key's definition gives by its tests: 1 to 9, then 10, then 11, and otherwise the key of the track and the position.
-- A verdict that is none of these tells that every test passed.
use Prim.Native.Nat.{ℕ, ◌+◌, ◌*◌, ◌≤◌, ◌<◌}
use mathlib.Core.List.{List, [], ◌∷◌}
use mathlib.Core.Path.{◌≡◌, refl, sym, ap, ◌∙◌, subst}
use mathlib.Core.Bool.{Bool, true, false, cond, not}
use native.Mathlib.Omega.{arith}
use lib.ListN.{length}
use lib.Dec.{ltb}
use borrow.Author.Tests.{lt-ltb, le-ltb, ne_eqb}
use Rattle.model.specs.Track.{Track}
use Rattle.model.specs.Position.{Position, outs}
use Rattle.model.specs.Reading.{refusal, track_said, position_said}
use Rattle.model.proofs.BoolLaws.{and_both}
use Rattle.model.proofs.ReadingLaws.{refusal_small, if_accepted, if_refused}
use Rattle.rules.specs.Key.{verdict_of, KeyAnswer, turned_back, turns_back, key_for, key_in, key_in_by, key_of, key_of_by}
use Rattle.exam.specs.Operations.{Drawn}

-- no verdict is one of 1 to 11
pub verdict_goes : (l : List ℕ) → turns_back (verdict_of l) ≡ false
verdict_goes [] = refl
verdict_goes (c ∷ l) = refl

-- and every refusal is
pub refused_turns_back : (b : List ℕ) → (refusal b ≡ 0 → ⊥) → turns_back (refusal b) ≡ true
refused_turns_back b n = and_both _ _ (ap not (ne_eqb (refusal b) 0 n)) (lt-ltb (refusal b) 12 (omega (arith, refusal_small b)))

-- the answer by the rooms lent

module _ (t : Track) (p : Position) (planRoom listRoom : ℕ) where
  by_rooms : Bool → Bool → KeyAnswer
  by_rooms x y = cond x (turned_back 10) (cond y (turned_back 11) (key_for t p))

  plan_short : Bool
  plan_short = ltb planRoom (length (outs p) * (2 + 2 * t.zones))

  list_short : Bool
  list_short = ltb listRoom (length (outs p))

  key_by_rooms : key_in t p planRoom listRoom ≡ by_rooms plan_short list_short
  unfolding key_in_by by_rooms plan_short list_short
  key_by_rooms = refl

  pub key_10 : planRoom < length (outs p) * (2 + 2 * t.zones) → key_in t p planRoom listRoom ≡ turned_back 10
  unfolding by_rooms plan_short
  key_10 h = key_by_rooms ∙ ap (λ (x : Bool). by_rooms x list_short) (lt-ltb planRoom (length (outs p) * (2 + 2 * t.zones)) h)

  module _ (plan-enough : length (outs p) * (2 + 2 * t.zones) ≤ planRoom) where
    past_10 : key_in t p planRoom listRoom ≡ by_rooms false list_short
    unfolding plan_short
    past_10 = key_by_rooms ∙ ap (λ (x : Bool). by_rooms x list_short) (le-ltb planRoom (length (outs p) * (2 + 2 * t.zones)) plan-enough)

    pub key_11 : listRoom < length (outs p) → key_in t p planRoom listRoom ≡ turned_back 11
    unfolding by_rooms list_short
    key_11 h = past_10 ∙ ap (by_rooms false) (lt-ltb listRoom (length (outs p)) h)

    pub key_for_lem : length (outs p) ≤ listRoom → key_in t p planRoom listRoom ≡ key_for t p
    unfolding by_rooms list_short
    key_for_lem h = past_10 ∙ ap (by_rooms false) (le-ltb listRoom (length (outs p)) h)

  -- neither 10 nor 11
  pub key_neither : ((key_in t p planRoom listRoom).verdict ≡ 10 → ⊥) → ((key_in t p planRoom listRoom).verdict ≡ 11 → ⊥) → key_in t p planRoom listRoom ≡ key_for t p
  unfolding by_rooms
  key_neither = subst (λ (k : KeyAnswer). (k.verdict ≡ 10 → ⊥) → (k.verdict ≡ 11 → ⊥) → k ≡ key_for t p) (sym key_by_rooms) (go plan_short list_short)
    where
      go : (x y : Bool) → ((by_rooms x y).verdict ≡ 10 → ⊥) → ((by_rooms x y).verdict ≡ 11 → ⊥) → by_rooms x y ≡ key_for t p
      go true y n m = absurd (n refl)
      go false true n m = absurd (m refl)
      go false false n m = refl

-- the answer of a board in bytes

module _ (b : List ℕ) (planRoom listRoom : ℕ) where
  pub key_refused : (refusal b ≡ 0 → ⊥) → key_of b planRoom listRoom ≡ turned_back (refusal b)
  unfolding key_of_by
  key_refused = if_refused b _ _

  pub key_read : refusal b ≡ 0 → key_of b planRoom listRoom ≡ key_in (track_said b) (position_said b) planRoom listRoom
  unfolding key_of_by
  key_read = if_accepted b _ _

  -- a key that was drawn is the key of the track and the position
  pub key_drawn : Drawn b (key_of b planRoom listRoom).verdict → key_of b planRoom listRoom ≡ key_for (track_said b) (position_said b)
  key_drawn d =
      let e = key_read d.accepted in
      let v = ap (λ (k : KeyAnswer). k.verdict) e in
      e ∙ key_neither (track_said b) (position_said b) planRoom listRoom (λ h. d.not_10 (v ∙ h)) (λ h. d.not_11 (v ∙ h))

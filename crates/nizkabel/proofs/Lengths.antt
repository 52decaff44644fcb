-- The lengths that the operations give are small, whatever the bytes: at most 18,624 words of a plan and 96 carriers of a list.
-- What is turned back has length 0; an accepted board has at most 96 zones, so at most 96 carriers with at most 194 words each.
use Prim.Native.Nat.{ℕ, ◌+◌, ◌*◌, ◌≤◌}
use mathlib.Core.List.{List, []}
use mathlib.Core.Path.{◌≡◌, refl, sym, subst}
use mathlib.Core.Bool.{Bool, true, false, cond}
use native.Mathlib.Nat.{le_trans}
use native.Mathlib.Omega.{arith}
use borrow.Author.Tests.{eqb-true}
use lib.ListN.{length}
use lib.Dec.{ltb, eqb}
use Rattle.model.specs.Position.{outs}
use Rattle.model.specs.Reading.{Bytes, refusal, track_said, position_said}
use Rattle.model.proofs.ReadingLaws.{ready_said}
use Rattle.rules.specs.Key.{KeyAnswer, turned_back, key_for, key_for_by, key_in_by, key_of, key_of_by}
use Rattle.rules.specs.Collapse.{CollapseAnswer, left, collapse_in, collapse_of}
use Rattle.order.proofs.Sizes.{plan_room, named_most}
use Rattle.blocking.proofs.SameList.{collapse_same}
use Rattle.exam.proofs.ReadyLaws.{few_out, room_small}

module _ (b : List ℕ) where
  -- what holds of what is turned back and of the key of an accepted board holds of every key
  of_key : (P : KeyAnswer → Type 0) → ((n : ℕ) → P (turned_back n)) → (refusal b ≡ 0 → P (key_for (track_said b) (position_said b))) → (planRoom listRoom : ℕ) → P (key_of b planRoom listRoom)
  unfolding key_of_by key_in_by
  of_key P turned drawn planRoom listRoom =
      go (eqb (refusal b) 0) refl (ltb planRoom (length (outs (position_said b)) * (2 + 2 * (track_said b).zones))) (ltb listRoom (length (outs (position_said b))))
    where
      go : (x : Bool) → eqb (refusal b) 0 ≡ x → (y z : Bool) → P (cond x (cond y (turned_back 10) (cond z (turned_back 11) (key_for (track_said b) (position_said b)))) (turned_back (refusal b)))
      go true e true z = turned 10
      go true e false true = turned 11
      go true e false false = drawn (eqb-true (refusal b) 0 e)
      go false e y z = turned (refusal b)

  -- and the same of the collapse
  of_collapse : (P : CollapseAnswer → Type 0) → ((n : ℕ) → P (record { number = n; list = [] })) → (refusal b ≡ 0 → P (record { number = 0; list = left (track_said b) (position_said b) })) → (listRoom : ℕ) → P (collapse_of b listRoom)
  unfolding collapse_of collapse_in
  of_collapse P turned done listRoom = go (eqb (refusal b) 0) refl (ltb listRoom (length (outs (position_said b))))
    where
      go : (x : Bool) → eqb (refusal b) 0 ≡ x → (y : Bool) → P (cond x (cond y (record { number = 11; list = [] }) (record { number = 0; list = left (track_said b) (position_said b) })) (record { number = refusal b; list = [] }))
      go true e true = turned 11
      go true e false = done (eqb-true (refusal b) 0 e)
      go false e y = turned (refusal b)

module _ (b : List ℕ) (small : Bytes b) where
  plan_few : refusal b ≡ 0 → length (key_for (track_said b) (position_said b)).plan ≤ 18624
  unfolding key_for_by
  plan_few none =
      let ready = ready_said b small none in
      le_trans (plan_room (track_said b) (position_said b) ready.bounded.laid) (room_small ready refl)

  named_few : refusal b ≡ 0 → length (key_for (track_said b) (position_said b)).list ≤ 96
  unfolding key_for_by
  named_few none =
      let ready = ready_said b small none in
      le_trans (named_most (track_said b) (position_said b) ready.bounded.laid) (few_out ready)

  left_few : refusal b ≡ 0 → length (left (track_said b) (position_said b)) ≤ 96
  unfolding key_for_by
  left_few none = subst (λ (l : List ℕ). length l ≤ 96) (sym (collapse_same (ready_said b small none).bounded.laid)) (named_few none)

  pub few_words : (planRoom listRoom : ℕ) → length (key_of b planRoom listRoom).plan ≤ 18624
  few_words = of_key b (λ a. length a.plan ≤ 18624) (λ n. omega arith) plan_few

  pub few_blocked : (planRoom listRoom : ℕ) → length (key_of b planRoom listRoom).list ≤ 96
  few_blocked = of_key b (λ a. length a.list ≤ 96) (λ n. omega arith) named_few

  pub few_left : (listRoom : ℕ) → length (collapse_of b listRoom).list ≤ 96
  few_left = of_collapse b (λ a. length a.list ≤ 96) (λ n. omega arith) left_few

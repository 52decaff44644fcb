-- The offering of a row of numbers: those that pass the test and are not in the queue yet go to its end, in order.
-- By induction on the row: a number that was offered does not come again, so the tests of the later ones stay as they are.
use Prim.Native.Nat.{ℕ, zero, suc}
use mathlib.Core.Path.{◌≡◌, refl, sym, ◌∙◌, ap, ap₂}
use mathlib.Core.List.{List, [], ◌∷◌, ◌++◌, map, append-nil, append_assoc, Memᴰ}
use mathlib.Core.Bool.{Bool, true, false, not, ◌&&◌, ◌||◌, or-false}
use native.Mathlib.Omega.{arith}
use lib.Dec.{eqb}
use borrow.Author.Tests.{ne_eqb}
use Rattle.model.specs.Lists.{count_up, cons_if, keep, any_of}
use Rattle.model.proofs.ListLaws.{keep_ext, any_append, mem_count_up}
use Rattle.least.specs.Queue.{Queue, in_queue, offer_if, offer, offer_all}

module _ (g : ℕ → Bool) (i : ℕ) where
  -- those that pass and are not in the queue
  abbrev new : Queue → ℕ → Bool
  new q v = g v && not (in_queue q v)

  -- a queue with these words at its end
  abbrev longer : Queue → List ℕ → Queue
  longer q vs = record { words = q.words ++ vs; froms = q.froms ++ map (λ v. i) vs }

  -- the one word more is none of those after it
  new_later : (k n : ℕ) (q : Queue) → keep (new (longer q (k ∷ []))) (count_up (suc k) n) ≡ keep (new q) (count_up (suc k) n)
  new_later k n q = keep_ext (new (longer q (k ∷ []))) (new q) (count_up (suc k) n) same
    where
      same : (v : ℕ) → Memᴰ v (count_up (suc k) n) → new (longer q (k ∷ [])) v ≡ new q v
      same v m =
          let other : v ≡ k → ⊥ = λ e. omega (arith, mem_count_up (suc k) n m) in
          ap (λ (t : Bool). g v && not t)
          (any_append (eqb v) q.words (k ∷ []) ∙ ap (λ (t : Bool). any_of (eqb v) q.words || (t || false)) (ne_eqb v k other) ∙ or-false (any_of (eqb v) q.words))

  pub offer_row : (k n : ℕ) (q : Queue) → offer_all i q (keep g (count_up k n)) ≡ longer q (keep (new q) (count_up k n))
  unfolding offer_all offer
  offer_row k zero q = ap₂ (λ (a b : List ℕ). record { words = a; froms = b }) (sym (append-nil q.words)) (sym (append-nil q.froms))
  offer_row k (suc n) q = go (g k) refl (in_queue q k) refl (offer_row (suc k) n)
    where
      go : (s : Bool) → g k ≡ s → (t : Bool) → in_queue q k ≡ t → ((q : Queue) → offer_all i q (keep g (count_up (suc k) n)) ≡ longer q (keep (new q) (count_up (suc k) n)))
          → offer_all i q (cons_if s k (keep g (count_up (suc k) n))) ≡ longer q (cons_if (s && not t) k (keep (new q) (count_up (suc k) n)))
      go false e t d ih = ih q
      go true e true d ih = ap (λ (t : Bool). offer_all i (offer_if t i q k) (keep g (count_up (suc k) n))) d ∙ ih q
      go true e false d ih =
          ap (λ (t : Bool). offer_all i (offer_if t i q k) (keep g (count_up (suc k) n))) d ∙
          ih (longer q (k ∷ [])) ∙
          ap (longer (longer q (k ∷ []))) (new_later k n q) ∙
          ap₂ (λ (a b : List ℕ). record { words = a; froms = b }) (append_assoc q.words (k ∷ []) (keep (new q) (count_up (suc k) n))) (append_assoc q.froms (i ∷ []) (map (λ v. i) (keep (new q) (count_up (suc k) n))))

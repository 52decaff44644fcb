-- Who is still out, by a look through the position: a carrier where a zone's number is its, and some carrier where a zone is held.
-- std's search through a list is the definitions' own.
use Prim.Native.Nat.{ℕ, suc}
use mathlib.Core.List.{List, [], ◌∷◌, map}
use mathlib.Core.Path.{◌≡◌, refl, sym, ap, ◌∙◌}
use mathlib.Core.Bool.{Bool, true, false, cond, not, ◌||◌}
use native.Mathlib.Omega.{arith}
use lib.ListN.{length}
use lib.Dec.{eqb}
use borrow.Author.Tests.{ne_eqb}
use Rattle.std.specs.List.{list_any}
use Rattle.model.specs.Lists.{keep, cons_if, any_of}
use Rattle.model.specs.Position.{Position, carrier_of}
use Rattle.model.proofs.AscendingLaws.{length_ascending}
use Rattle.rules.specs.Sheet.{still_out, mark_end}

any_listed : (f : ℕ → Bool) (l : List ℕ) → any_of f l ≡ list_any f l
any_listed f [] = refl
any_listed f (a ∷ l) = ap (λ (b : Bool). f a || b) (any_listed f l)

-- 0 is never out
pub out_none : (p : Position) (c : ℕ) → c ≡ 0 → still_out p c ≡ false
unfolding still_out
out_none p c e = ap (still_out p) e

pub out_looked : (p : Position) (c : ℕ) → (c ≡ 0 → ⊥) → still_out p c ≡ list_any (λ v. eqb (carrier_of v) c) p
unfolding still_out
out_looked p c n = rw (ne_eqb c 0 n) (any_listed (λ v. eqb (carrier_of v) c) p)

some_held : (p : Position) → cond {A = ℕ} (eqb (length (keep (λ c. not (eqb c 0)) (map carrier_of p))) 0) 0 34 ≡ cond (list_any (λ v. not (eqb (carrier_of v) 0)) p) 34 0
some_held [] = refl
some_held (v ∷ p) = go (not (eqb (carrier_of v) 0)) (some_held p)
  where
    rest : List ℕ
    rest = keep (λ c. not (eqb c 0)) (map carrier_of p)

    others : Bool
    others = list_any (λ v. not (eqb (carrier_of v) 0)) p

    go : (t : Bool) → cond {A = ℕ} (eqb (length rest) 0) 0 34 ≡ cond others 34 0 → cond {A = ℕ} (eqb (length (cons_if t (carrier_of v) rest)) 0) 0 34 ≡ cond (t || others) 34 0
    go true e = ap (λ (t : Bool). cond {A = ℕ} t 0 34) (ne_eqb (suc (length rest)) 0 (λ q. omega arith))
    go false e = e

end_looked : (p : Position) → mark_end p ≡ cond (list_any (λ v. not (eqb (carrier_of v) 0)) p) 34 0
unfolding mark_end
end_looked p = ap (λ (n : ℕ). cond {A = ℕ} (eqb n 0) 0 34) (length_ascending (keep (λ c. not (eqb c 0)) (map carrier_of p))) ∙ some_held p

-- by what the search found
pub end_found : (p : Position) {b x : Bool} → b ≡ list_any (λ v. not (eqb (carrier_of v) 0)) p → b ≡ x → cond x 34 0 ≡ mark_end p
end_found p e f = sym (end_looked p ∙ ap (λ (t : Bool). cond {A = ℕ} t 34 0) (sym e ∙ f))

-- What the marker's definition gives by the sheet's first word, and of a claim by whether anybody is blocked.
-- The definition's tests are replaced by what they are; a claim is held against what the collapse wrote, which is the key's list.
use Prim.Native.Nat.{ℕ, ◌-◌, ◌≤◌, ◌<◌}
use mathlib.Core.List.{List, [], ◌∷◌}
use mathlib.Core.Path.{◌≡◌, refl, sym, ap, ◌∙◌}
use mathlib.Core.Bool.{Bool, true, false, cond}
use native.Mathlib.Omega.{arith}
use lib.ListN.{length, get_or, take, drop}
use lib.Seq.{take_all}
use lib.Dec.{eqb}
use borrow.Author.Tests.{eq-eqb, ne_eqb}
use Rattle.model.specs.Track.{Track}
use Rattle.model.specs.Position.{Position, outs}
use Rattle.rules.specs.Key.{named}
use Rattle.rules.specs.Collapse.{collapse_in}
use Rattle.rules.specs.Sheet.{same_list, mark_claim, mark_claim_by, mark_entries, mark_for, mark_for_by}
use Rattle.model.specs.Accepted.{Ready}
use Rattle.exam.specs.Parsed.{CollapseGiven}
use Rattle.exam.proofs.CollapseLaws.{named_counted, named_written}

-- what the code takes as the words after the first
pub words_after : (sheet : List ℕ) → 0 < length sheet → take (length sheet - 1) (drop 1 sheet) ≡ drop 1 sheet
words_after [] h = absurd (omega arith)
words_after (kind ∷ ws) h = take_all (length (kind ∷ ws) - 1) ws (omega arith)

-- by the sheet's first word

module _ (t : Track) (p : Position) where
  by_kind : Bool → Bool → List ℕ → ℕ
  by_kind x y ws = cond x (mark_entries (length ws) t p ws) (cond y (mark_claim t p ws) 30)

  pub mark_empty : (sheet : List ℕ) → length sheet ≡ 0 → 30 ≡ mark_for t p sheet
  unfolding mark_for_by
  mark_empty [] e = refl
  mark_empty (kind ∷ ws) e = absurd (omega arith)

  mark_kind : (sheet : List ℕ) (x y : Bool) → 0 < length sheet → eqb (get_or sheet 0 0) 0 ≡ x → eqb (get_or sheet 0 0) 1 ≡ y → by_kind x y (drop 1 sheet) ≡ mark_for t p sheet
  unfolding mark_for_by by_kind
  mark_kind [] x y h e f = absurd (omega arith)
  mark_kind (kind ∷ ws) x y h e f = ap (λ (x : Bool). by_kind x y ws) (sym e) ∙ ap (λ (y : Bool). by_kind (eqb kind 0) y ws) (sym f)

  module _ (sheet : List ℕ) (some : 0 < length sheet) where
    pub mark_plan : {number : ℕ} → get_or sheet 0 0 ≡ 0 → number ≡ mark_entries (length (drop 1 sheet)) t p (drop 1 sheet) → number ≡ mark_for t p sheet
    unfolding by_kind
    mark_plan e m = m ∙ mark_kind sheet true (eqb (get_or sheet 0 0) 1) some (eq-eqb (get_or sheet 0 0) 0 e) refl

    pub mark_claim_lem : {number : ℕ} → get_or sheet 0 0 ≡ 1 → number ≡ mark_claim t p (drop 1 sheet) → number ≡ mark_for t p sheet
    unfolding by_kind
    mark_claim_lem e m = m ∙ mark_kind sheet false true some (ne_eqb (get_or sheet 0 0) 0 (λ k. omega arith)) (eq-eqb (get_or sheet 0 0) 1 e)

    pub mark_other : (get_or sheet 0 0 ≡ 0 → ⊥) → (get_or sheet 0 0 ≡ 1 → ⊥) → 30 ≡ mark_for t p sheet
    unfolding by_kind
    mark_other n m = mark_kind sheet false false some (ne_eqb (get_or sheet 0 0) 0 n) (ne_eqb (get_or sheet 0 0) 1 m)

  -- a claim

  claim_none : (ws : List ℕ) → named t p ≡ [] → 35 ≡ mark_claim t p ws
  unfolding mark_claim_by same_list
  claim_none [] e = refl
  claim_none (c ∷ cs) e = sym (ap (λ (l : List ℕ). cond (same_list (c ∷ cs) l) 0 35) e)

  claim_some : (ws : List ℕ) → (length (named t p) ≡ 0 → ⊥) → cond (same_list ws (named t p)) 0 35 ≡ mark_claim t p ws
  unfolding mark_claim_by same_list
  claim_some [] n = go (named t p) n
    where
      go : (l : List ℕ) → (length l ≡ 0 → ⊥) → ◌≡◌ {A = ℕ} (cond (same_list [] l) 0 35) 35
      go [] n = absurd (n refl)
      go (c ∷ l) n = refl
  claim_some (c ∷ cs) n = refl

nothing : (l : List ℕ) → length l ≡ 0 → l ≡ []
nothing [] e = refl
nothing (a ∷ l) e = absurd (omega arith)

-- by what the collapse wrote to a list that is long enough
module _ {t : Track} {p : Position} (ready : Ready t p) {list list' : List ℕ} {number listed : ℕ} (given : CollapseGiven (collapse_in t p (length list)) list number listed list') (room : length (outs p) ≤ length list) (ws : List ℕ) where
  pub claim_false : listed ≡ 0 → 35 ≡ mark_claim t p ws
  claim_false e = claim_none t p ws (nothing (named t p) (sym (named_counted ready given room) ∙ e))

  pub claim_marked : (listed ≡ 0 → ⊥) → {b : Bool} → b ≡ same_list ws (take listed list') → {x : Bool} → b ≡ x → cond x 0 35 ≡ mark_claim t p ws
  claim_marked n {b} s {x} e =
      ap (λ (y : Bool). cond y 0 35) (sym e ∙ s ∙ ap (same_list ws) (named_written ready given room))
      ∙ claim_some t p ws (λ k. n (named_counted ready given room ∙ k))

-- The plan's number, entry by entry: an entry that fails gives its number, one that passes leaves the number of the entries after it with its
-- carrier taken off, and at the end a look through the position decides. More fuel than words changes nothing.
use Prim.Native.Nat.{ℕ, zero, suc, ◌+◌, ◌≤◌, ◌<◌}
use mathlib.Core.List.{List, [], ◌∷◌}
use mathlib.Core.Path.{◌≡◌, refl, sym, ap, ap₂, ◌∙◌, subst}
use mathlib.Core.Bool.{Bool, true, false, ◌||◌}
use native.Mathlib.Omega.{arith}
use lib.ListN.{length, get_or, take, drop, length-drop}
use lib.Dec.{ltb, eqb}
use denote.Ref.{Bor}
use Rattle.std.specs.Prelude.{Ok, Err}
use Rattle.model.specs.Track.{Track}
use Rattle.model.specs.Position.{Position, retire}
use Rattle.model.proofs.PositionLaws.{length_without, once_retire}
use Rattle.rules.specs.Sheet.{still_out, by_rules, ends_home, mark_end, number_of, mark_entry_by, mark_entries, mark_entries_by}
use Rattle.marker.specs.declared.fault.Fault.{Fault}
use Rattle.marker.specs.declared.fault.Fault.TheVariants.{BadSheet, NotOut, BadWord, NotHome, StillOut, FalseClaim}
use Rattle.marker.specs.Faults.{fault_number}
use Rattle.marker.specs.Marked.{Markable, entry_number, EntryMarked}

nothing : (l : List ℕ) → length l ≡ 0 → l ≡ []
nothing [] e = refl
nothing (a ∷ l) e = absurd (omega arith)

too_many : {X : Type 0} (n : ℕ) → suc n ≤ 0 → X
too_many n h = absurd (omega arith)

enough : (n m : ℕ) (t : Track) (p : Position) (ws : List ℕ) → length ws ≤ n → length ws ≤ m → mark_entries n t p ws ≡ mark_entries m t p ws
unfolding mark_entries_by mark_entry_by
enough zero zero t p ws h k = refl
enough zero (suc m) t p [] h k = refl
enough zero (suc m) t p (c ∷ ws) h k = too_many (length ws) h
enough (suc n) zero t p [] h k = refl
enough (suc n) zero t p (c ∷ ws) h k = too_many (length ws) k
enough (suc n) (suc m) t p [] h k = refl
enough (suc n) (suc m) t p (c ∷ []) h k = refl
enough (suc n) (suc m) t p (c ∷ j ∷ ws) h k =
    let fewer : length (drop j ws) ≤ n = simp length-drop (omega arith) in
    let less : length (drop j ws) ≤ m = simp length-drop (omega arith) in
    ap (number_of (eqb j 0 || ltb (length ws) j) (still_out p c) (by_rules t p c (take j ws)) (ends_home t (take j ws))) (enough n m t (retire c p) (drop j ws) fewer less)

-- a number that isn't 0 is given whatever comes after
stops : (a b d e : Bool) (rest : ℕ) → (number_of a b d e 0 ≡ 0 → ⊥) → number_of a b d e rest ≡ number_of a b d e 0
stops true b d e rest n = refl
stops false false d e rest n = refl
stops false true false e rest n = refl
stops false true true false rest n = refl
stops false true true true rest n = absurd (n refl)

-- 0 leaves what comes after
goes_on : (a b d e : Bool) (rest : ℕ) → number_of a b d e 0 ≡ 0 → number_of a b d e rest ≡ rest
goes_on true b d e rest h = absurd (let f : 30 ≡ zero = h in omega arith)
goes_on false false d e rest h = absurd (let f : 31 ≡ zero = h in omega arith)
goes_on false true false e rest h = absurd (let f : 32 ≡ zero = h in omega arith)
goes_on false true true false rest h = absurd (let f : 33 ≡ zero = h in omega arith)
goes_on false true true true rest h = refl

fails_words : (t : Track) (p : Position) (ws : List ℕ) → 0 < length ws → (entry_number t p ws ≡ 0 → ⊥) → mark_entries (length ws) t p ws ≡ entry_number t p ws
unfolding mark_entries_by mark_entry_by entry_number
fails_words t p [] h n = too_many 0 h
fails_words t p (c ∷ []) h n = refl
fails_words t p (c ∷ k ∷ ws) h n = stops (eqb k 0 || ltb (length ws) k) (still_out p c) (by_rules t p c (take k ws)) (ends_home t (take k ws)) (mark_entries (suc (length ws)) t (retire c p) (drop k ws)) n

-- an entry that passes leaves the words after it, with its carrier taken off
passes_words : (t : Track) (p : Position) (ws : List ℕ) → 0 < length ws → entry_number t p ws ≡ 0
    → mark_entries (length ws) t p ws ≡ mark_entries (length (drop (2 + get_or ws 1 0) ws)) t (retire (get_or ws 0 0) p) (drop (2 + get_or ws 1 0) ws)
unfolding mark_entries_by mark_entry_by entry_number
passes_words t p [] h e = too_many 0 h
passes_words t p (c ∷ []) h e = absurd (let f : 30 ≡ zero = e in omega arith)
passes_words t p (c ∷ k ∷ ws) h e =
    let rest = mark_entries (suc (length ws)) t (retire c p) (drop k ws) in
    let past : drop k ws ≡ drop (2 + k) (c ∷ k ∷ ws) = ap (λ (n : ℕ). drop n (c ∷ k ∷ ws)) two_more in
    goes_on (eqb k 0 || ltb (length ws) k) (still_out p c) (by_rules t p c (take k ws)) (ends_home t (take k ws)) rest e
    ∙ enough (suc (length ws)) (length (drop k ws)) t (retire c p) (drop k ws) (simp length-drop (omega arith)) (omega arith)
    ∙ ap (λ (l : List ℕ). mark_entries (length l) t (retire c p) l) past
  where
    two_more : suc (suc k) ≡ 2 + k
    two_more = omega arith

-- what holds while the plan is marked: the number of the entries left is the whole plan's
pub record Marking (t : Track) (first : Position) (entries : List ℕ) (p : Position) (left : List ℕ) : Type 0 where
  pub markable : Markable t p
  pub same : mark_entries (length left) t p left ≡ mark_entries (length entries) t first entries

fault_some : (f : Fault) → fault_number f ≡ 0 → ⊥
fault_some BadSheet e = omega arith
fault_some NotOut e = omega arith
fault_some BadWord e = omega arith
fault_some NotHome e = omega arith
fault_some StillOut e = omega arith
fault_some FalseClaim e = omega arith

module _ {t : Track} {first : Position} {entries : List ℕ} {p : Position} {left : List ℕ} (g : Marking t first entries p left) where
  pub entries_end : {r : ℕ} → length left ≡ 0 → r ≡ mark_end p → r ≡ mark_entries (length entries) t first entries
  unfolding mark_entries_by
  entries_end h e = e ∙ sym (ap (λ (l : List ℕ). mark_entries (length l) t p l) (nothing left h)) ∙ g.same

  module _ (h : 0 < length left) {q : Position} where
    pub entry_stops : {f : Fault} → EntryMarked t p left (Err f) q → fault_number f ≡ mark_entries (length entries) t first entries
    entry_stops {f} m = m.number ∙ sym (fails_words t p left h (λ e. fault_some f (m.number ∙ e))) ∙ g.same

    module _ {rest : Bor (List ℕ)} (m : EntryMarked t p left (Ok rest) q) where
      still_markable : Markable t q
      still_markable =
          let c = get_or left 0 0 in
          subst (Markable t) (sym m.leaves) (record { each = length_without (eqb c) p ∙ g.markable.each; ends_count = g.markable.ends_count; once = once_retire c p g.markable.once })

      pub entry_passes : Marking t first entries q rest.now
      entry_passes = record {
        markable = still_markable;
        same = ap₂ (λ (r : Position) (l : List ℕ). mark_entries (length l) t r l) m.leaves m.rest ∙ sym (passes_words t p left h (sym m.number)) ∙ g.same;
      }

-- A sheet's plan is marked 0 exactly where it is an order of all carriers out, with routes by the rules.
-- Entry by entry: an entry passes 30 to 33 exactly where it retires its carrier, and 34 is not given exactly where none is left.
use Prim.Native.Nat.{ℕ, zero, suc, ◌+◌, ◌≤◌}
use mathlib.Core.List.Memᴰ
use mathlib.Core.List.{List, [], ◌∷◌, ◌++◌, Memᴰ}
use mathlib.Core.Path.{◌≡◌, refl, ap, ◌∙◌}
use mathlib.Core.Bool.{Bool, true, false, cond, not, ◌||◌}
use native.Mathlib.Omega.{arith}
use lib.ListN.{length, take, drop, length-append, length-drop, take-append-drop}
use lib.Seq.{take-append_seam, drop-append_seam, length-take-le}
use lib.Dec.{ltb, eqb}
use borrow.Author.Tests.{ltb-false, le-ltb, eqb-false, ne_eqb, not-true}
use Rattle.model.proofs.BoolLaws.{and_left, or_false_right, both_ways}
use Rattle.model.proofs.PositionLaws.{mem_outs, outs_mem, laid_retire}
use Rattle.model.specs.Lists.{any_of}
use Rattle.model.specs.Track.{Track}
use Rattle.model.specs.Position.{Position, carrier_of, retire, outs}
use Rattle.model.specs.Accepted.{Laid}
use Rattle.rules.specs.Routes.{Route, route, Entry, Retires, done, next, Empty}
use Rattle.rules.specs.Key.{plan_words}
use Rattle.rules.specs.Sheet.{OrderGiven, still_out, by_rules, ends_home, mark_end, number_of, mark_entry_by, mark_entries, mark_entries_by}
use Rattle.rules.proofs.OutTested.{stands_out}
use Rattle.marking.proofs.RouteMarked.{route_of_tests, rules_of_route, home_of_route}

-- all four tests passed, and the rest marked 0
pub record AllPassed (short out rules home : Bool) (rest : ℕ) : Type 0 where
  pub whole : short ≡ false
  pub is_out : out ≡ true
  pub by_rule : rules ≡ true
  pub at_home : home ≡ true
  pub after : rest ≡ 0

pub not_zero : {X : Type 0} (n : ℕ) → suc n ≡ 0 → X
not_zero n h = absurd (omega arith)

passed : (short out rules home : Bool) (rest : ℕ) → number_of short out rules home rest ≡ 0 → AllPassed short out rules home rest
passed true out rules home rest h = not_zero 29 h
passed false false rules home rest h = not_zero 30 h
passed false true false home rest h = not_zero 31 h
passed false true true false rest h = not_zero 32 h
passed false true true true rest h = record { whole = refl; is_out = refl; by_rule = refl; at_home = refl; after = h }

zero_of_passed : (short out rules home : Bool) (rest : ℕ) → AllPassed short out rules home rest → number_of short out rules home rest ≡ 0
zero_of_passed true out rules home rest x = both_ways {t = true} refl x.whole
zero_of_passed false false rules home rest x = both_ways {t = false} x.is_out refl
zero_of_passed false true false home rest x = both_ways {t = false} x.by_rule refl
zero_of_passed false true true false rest x = both_ways {t = false} x.at_home refl
zero_of_passed false true true true rest x = x.after

false_or : (a b : Bool) → a ≡ false → b ≡ false → (a || b) ≡ false
false_or true b p q = both_ways {t = true} refl p
false_or false b p q = q

empty_of_end : (p : Position) → mark_end p ≡ 0 → Empty p
unfolding mark_end
empty_of_end p h c out = go (outs p) h (outs_mem p out)
  where
    go : (l : List ℕ) → cond (eqb (length l) 0) 0 34 ≡ zero → Memᴰ c l → ⊥
    go [] e m = Memᴰ.not-nil m
    go (a ∷ l) e m = not_zero 33 (rw (ne_eqb (length (a ∷ l)) 0 (λ n. omega arith)) at e)

end_of_empty : (p : Position) → Empty p → mark_end p ≡ 0
unfolding mark_end
end_of_empty p none = go (outs p) (λ a m. none a (mem_outs p m))
  where
    go : (l : List ℕ) → ((a : ℕ) → Memᴰ a l → ⊥) → cond (eqb (length l) 0) 0 34 ≡ zero
    go [] no_one = refl
    go (a ∷ l) no_one = absurd (no_one a (Memᴰ.head refl))

numbered_of_out : (p : Position) (c : ℕ) → still_out p c ≡ true → c ≡ 0 → ⊥
unfolding still_out
numbered_of_out p c h = eqb-false c 0 (not-true (eqb c 0) (and_left (not (eqb c 0)) (any_of (λ v. eqb (carrier_of v) c) p) h))

out_of_route : (t : Track) (p : Position) (c : ℕ) {r : List ℕ} → Route t p c r → still_out p c ≡ true
out_of_route t p c (route s o) = stands_out s

given_end : (t : Track) (p : Position) → mark_end p ≡ 0 → OrderGiven t p (0 ∷ [])
unfolding plan_words
given_end t p h = record { entries = []; last = p; written = refl; retires = done; empty = empty_of_end p h }

given_entry : (t : Track) (p : Position) (c k : ℕ) (ws : List ℕ) → k ≤ length ws → Route t p c (take k ws) → OrderGiven t (retire c p) (0 ∷ drop k ws) → OrderGiven t p (0 ∷ c ∷ k ∷ ws)
unfolding plan_words
given_entry t p c k ws fits r g =
    let rest : drop k ws ≡ plan_words g.entries = cc g.written in
    record {
      entries = record { carrier = c; words = take k ws } ∷ g.entries;
      last = g.last;
      written = rw (length-take-le k ws fits, ← rest, take-append-drop k ws);
      retires = next r g.retires;
      empty = g.empty;
    }

pub order_of_zero : (t : Track) (n : ℕ) (p : Position) (ws : List ℕ) → length ws ≤ n → Laid t p → mark_entries n t p ws ≡ 0 → OrderGiven t p (0 ∷ ws)
unfolding mark_entries_by mark_entry_by
order_of_zero t zero p [] fits laid h = given_end t p h
order_of_zero t zero p (c ∷ ws) fits laid h = absurd (let f : suc (length ws) ≤ 0 = fits in omega arith)
order_of_zero t (suc n) p [] fits laid h = given_end t p h
order_of_zero t (suc n) p (c ∷ []) fits laid h = absurd (let f : 30 ≡ 0 = h in omega arith)
order_of_zero t (suc n) p (c ∷ k ∷ ws) fits laid h =
    let x = passed (eqb k 0 || ltb (length ws) k) (still_out p c) (by_rules t p c (take k ws)) (ends_home t (take k ws)) (mark_entries n t (retire c p) (drop k ws)) h in
    let short : ltb (length ws) k ≡ false = or_false_right (eqb k 0) (ltb (length ws) k) x.whole in
    let room : k ≤ length ws = ltb-false (length ws) k short in
    let fewer : length (drop k ws) ≤ n = simp length-drop (omega arith) in
    given_entry t p c k ws room
    (route_of_tests t p c laid.each (numbered_of_out p c x.is_out) (take k ws) x.by_rule x.at_home)
    (order_of_zero t n (retire c p) (drop k ws) fewer (laid_retire t c p laid) x.after)

-- a route has a word
some_words : {t : Track} {p : Position} {c : ℕ} {r : List ℕ} → Route t p c r → length r ≡ 0 → ⊥
some_words (route {vs = vs} s o) h = not_zero (length vs) h

pub zero_of_order : (t : Track) (n : ℕ) {p q : Position} {es : List Entry} → length (plan_words es) ≤ n → Laid t p → Retires t p es q → Empty q → mark_entries n t p (plan_words es) ≡ 0
unfolding mark_entries_by mark_entry_by plan_words
zero_of_order t zero {p} fits laid done none = end_of_empty p none
zero_of_order t (suc n) {p} fits laid done none = end_of_empty p none
zero_of_order t zero fits laid (next {e = e} {es = es} r rs) none = absurd (let f : suc (suc (length (e.words ++ plan_words es))) ≤ 0 = fits in omega arith)
zero_of_order t (suc n) {p} fits laid (next {e = e} {es = es} r rs) none =
    let c = e.carrier in
    let k = length e.words in
    let ws = e.words ++ plan_words es in
    let long : length ws ≡ k + length (plan_words es) = length-append e.words (plan_words es) in
    let front : take k ws ≡ e.words = take-append_seam e.words (plan_words es) in
    let back : drop k ws ≡ plan_words es = drop-append_seam e.words (plan_words es) in
    let fewer : length (plan_words es) ≤ n = omega arith in
    zero_of_passed (eqb k 0 || ltb (length ws) k) (still_out p c) (by_rules t p c (take k ws)) (ends_home t (take k ws)) (mark_entries n t (retire c p) (drop k ws))
    (record {
      whole = false_or (eqb k 0) (ltb (length ws) k) (ne_eqb k 0 (some_words r)) (le-ltb (length ws) k (omega arith));
      is_out = out_of_route t p c r;
      by_rule = ap (by_rules t p c) front ∙ rules_of_route t p c laid.each r;
      at_home = ap (ends_home t) front ∙ home_of_route t p c r;
      after = ap (mark_entries n t (retire c p)) back ∙ zero_of_order t n fewer (laid_retire t c p laid) rs none;
    })

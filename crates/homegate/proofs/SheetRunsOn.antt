-- A sheet that runs on gets 32, after any entries that are routes home by the older moving rule.
-- Entry by entry: one that is a route now passes, as the marker's laws say, and one that isn't runs on through home itself.
use Prim.Native.Nat.{ℕ, zero, suc, ◌≤◌}
use mathlib.Core.Path.{◌≡◌, refl, ap, ◌∙◌}
use mathlib.Core.List.{List, ◌∷◌, ◌++◌, append_assoc}
use mathlib.Core.Bool.{Bool, true, false}
use native.Mathlib.Omega.{arith}
use native.Mathlib.Nat.{le_refl}
use borrow.Author.Tests.{ne_eqb, le-ltb}
use lib.ListN.{length, take, length-append}
use lib.Seq.{take-append_seam, drop-append_seam}
use Rattle.model.specs.Track.{Track}
use Rattle.model.specs.Position.{Position, Out, retire}
use Rattle.model.specs.Accepted.{Laid}
use Rattle.model.specs.Reading.{track_said}
use Rattle.model.proofs.PositionLaws.{laid_retire}
use Rattle.model.proofs.ReadingLaws.{no_row, laid_said}
use Rattle.rules.specs.Routes.{UngatedStep, RouteBy, route, Entry, RetiresBy, done, next, Route}
use Rattle.rules.specs.Key.{plan_words}
use Rattle.rules.specs.Sheet.{mark_entry, mark_entry_by, mark_entries, mark_entries_by, mark_for_by, mark_of_by}
use Rattle.rules.proofs.OutTested.{stands_out}
use Rattle.marking.proofs.RouteMarked.{rules_of_route, home_of_route}
use Rattle.homegate.specs.AgainstOlder.{home_is_last, SheetRunsOn}
use Rattle.homegate.proofs.RouteCut.{orders_same}
use Rattle.homegate.proofs.MarkAsBefore.{runs_on_gets_32}

module _ {t : Track} {p : Position} {c : ℕ} {r : List ℕ} (older : RouteBy UngatedStep t p c r) where
  some_words : length r ≡ 0 → ⊥
  some_words e = go older e
    where
      go : {r : List ℕ} → RouteBy UngatedStep t p c r → length r ≡ 0 → ⊥
      go (route s o) e = omega arith

  goer_out : Out p c
  goer_out = go older
    where
      go : {r : List ℕ} → RouteBy UngatedStep t p c r → Out p c
      go (route {w = w} s o) = (w, s)

  -- an entry with such a route: the rest's number where it is a route now, and 32 where it runs on
  module _ (laid : Laid t p) (more : List ℕ) (rest : Position → List ℕ → ℕ) where
    passes : home_is_last t r ≡ true → mark_entry t p (c ∷ length r ∷ r ++ more) rest ≡ rest (retire c p) more
    unfolding mark_entry_by
    passes last =
        let now : Route t p c r = ((orders_same t p).routes c r).1 (older, last) in
        rw (
          ne_eqb (length r) 0 some_words,
          le-ltb (length (r ++ more)) (length r) (omega (arith, length-append r more)),
          stands_out goer_out.1,
          take-append_seam r more,
          rules_of_route t p c laid.each now,
          home_of_route t p c now,
          drop-append_seam r more,
        )

    fails : home_is_last t r ≡ false → mark_entry t p (c ∷ length r ∷ r ++ more) rest ≡ 32
    fails last = runs_on_gets_32 t p c (length r) (r ++ more) rest some_words (omega (arith, length-append r more)) goer_out (ap (home_is_last t) (take-append_seam r more) ∙ last)

module _ (t : Track) (c k : ℕ) (ws : List ℕ) (has_words : k ≡ 0 → ⊥) (fits : k ≤ length ws) (last : home_is_last t (take k ws) ≡ false) where
  entries_run_on : (n : ℕ) {p q : Position} {es : List Entry} → length (plan_words es ++ (c ∷ k ∷ ws)) ≤ n → Laid t p → RetiresBy UngatedStep t p es q → Out q c
      → mark_entries n t p (plan_words es ++ (c ∷ k ∷ ws)) ≡ 32
  unfolding mark_entries_by plan_words
  entries_run_on zero enough laid done out = absurd (let f : suc (suc (length ws)) ≤ 0 = enough in omega arith)
  entries_run_on (suc n) {p} enough laid done out = runs_on_gets_32 t p c k ws (mark_entries n t) has_words fits out last
  entries_run_on zero enough laid (next {e = e} {es = es} r rs) out = absurd (let f : suc (suc (length ((e.words ++ plan_words es) ++ (c ∷ k ∷ ws)))) ≤ 0 = enough in omega arith)
  entries_run_on (suc n) {p} enough laid (next {e = e} {es = es} r rs) out =
      ap (λ (l : List ℕ). mark_entry t p (e.carrier ∷ length e.words ∷ l) (mark_entries n t)) joined
      ∙ by (home_is_last t e.words) refl (entries_run_on n fewer (laid_retire t e.carrier p laid) rs out)
    where
      more : List ℕ
      more = plan_words es ++ (c ∷ k ∷ ws)

      joined : (e.words ++ plan_words es) ++ (c ∷ k ∷ ws) ≡ e.words ++ more
      joined = append_assoc e.words (plan_words es) (c ∷ k ∷ ws)

      fewer : length more ≤ n
      fewer = let f : suc (suc (length ((e.words ++ plan_words es) ++ (c ∷ k ∷ ws)))) ≤ suc n = enough in omega (arith, ap length joined, length-append e.words more)

      by : (b : Bool) → home_is_last t e.words ≡ b → mark_entries n t (retire e.carrier p) more ≡ 32 → mark_entry t p (e.carrier ∷ length e.words ∷ e.words ++ more) (mark_entries n t) ≡ 32
      by true h ih = passes r laid more (mark_entries n t) h ∙ ih
      by false h ih = fails r laid more (mark_entries n t) h

pub sheet_runs_on : SheetRunsOn
unfolding mark_of_by mark_for_by
sheet_runs_on b accepted es q rs c k ws has_words fits out last =
    rw (accepted) (entries_run_on (track_said b) c k ws has_words fits last _ (le_refl _) (laid_said b (no_row b accepted)) rs out)

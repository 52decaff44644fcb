-- The mark of a sheet is its mark by the older moving rule, or 32, for every list of bytes and every sheet; so a sheet that passes passed before.
-- A route by the rules is one by the older rules in which a word that leaves at home is the last, so of an entry's four tests just the third can
-- fail where it did not.
use Prim.Native.Nat.{ℕ, zero, suc, ◌+◌, ◌*◌}
use mathlib.Core.Path.{◌≡◌, refl, sym, ap, ◌∙◌}
use mathlib.Core.List.{List, [], ◌∷◌}
use mathlib.Core.Bool.{Bool, true, false, cond, not, ◌&&◌, ◌||◌, true≢false, and-false}
use mathlib.Core.Logic.{◌⊎◌, inl, inr}
use native.Mathlib.Omega.{arith}
use lib.ListN.{length, take, drop}
use lib.Dec.{ltb, eqb}
use borrow.Author.Tests.{ne_eqb, le-ltb}
use Rattle.model.specs.Track.{Track, zone_of, heading_of}
use Rattle.model.specs.Position.{Position, at, retire}
use Rattle.model.specs.Reading.{refusal, track_said, position_said}
use Rattle.model.proofs.BoolLaws.{and_left}
use Rattle.rules.specs.Key.{leaves_home, ungated_steps}
use Rattle.rules.proofs.OutTested.{stands_out}
use Rattle.rules.specs.Sheet.{still_out, ends_home, number_of, same_list, follow, by_rules, mark_entries, mark_claim, mark_for, mark_of}
use Rattle.rules.specs.Sheet.{follow_by, by_rules_by, mark_entry_by, mark_entries_by, mark_claim_by, mark_for_by, mark_of_by}
use Rattle.homegate.specs.AgainstOlder.{home_is_last, RulesGated, RunsOnGets32, MarksOr32}
use Rattle.homegate.proofs.KeyAsBefore.{named_same}

-- the one number is the other, or 32
abbrev SameOr32 : ℕ → ℕ → Type 0
SameOr32 now before = (now ≡ before) ⊎ (now ≡ 32)

module _ (t : Track) (p : Position) (c : ℕ) where
  follow_gated : (w : ℕ) (vs : List ℕ) → follow t p c w vs ≡ (follow_by ungated_steps t p c w vs && home_is_last t (w ∷ vs))
  unfolding follow_by
  follow_gated w [] = refl
  follow_gated w (v ∷ vs) = go (ltb v (2 * t.zones)) (leaves_home t w) (ungated_steps t p c w v) (follow_gated v vs)
    where
      older : Bool
      older = follow_by ungated_steps t p c v vs

      last : Bool
      last = home_is_last t (v ∷ vs)

      go : (below home step : Bool) → follow t p c v vs ≡ (older && last) → (below && ((not home && step) && follow t p c v vs)) ≡ ((below && (step && older)) && (not home && last))
      go false home step e = refl
      go true true step e = sym (and-false (step && older))
      go true false true e = e
      go true false false e = refl

-- an entry's route is by the rules exactly if it was and doesn't run on through home
pub rules_gated : RulesGated
unfolding by_rules_by
rules_gated t p c [] = refl
rules_gated t p c (w ∷ vs) = go (ltb w (2 * t.zones)) (eqb (at p (zone_of w)) (2 * c + heading_of w)) (follow_gated t p c w vs)
  where
    older : Bool
    older = follow_by ungated_steps t p c w vs

    last : Bool
    last = home_is_last t (w ∷ vs)

    go : (below stands : Bool) → follow t p c w vs ≡ (older && last) → (below && (stands && follow t p c w vs)) ≡ ((below && (stands && older)) && last)
    go false stands e = refl
    go true false e = refl
    go true true e = e

rules_before : (t : Track) (p : Position) (c : ℕ) (r : List ℕ) → by_rules t p c r ≡ true → by_rules_by ungated_steps t p c r ≡ true
rules_before t p c r h = and_left (by_rules_by ungated_steps t p c r) (home_is_last t r) (sym (rules_gated t p c r) ∙ h)

pub runs_on_gets_32 : RunsOnGets32
unfolding mark_entry_by
runs_on_gets_32 t p c k ws rest has_words fits (w, s) last =
    let r = take k ws in
    let rules : by_rules t p c r ≡ false = rules_gated t p c r ∙ ap (λ (b : Bool). by_rules_by ungated_steps t p c r && b) last ∙ and-false (by_rules_by ungated_steps t p c r) in
    rw (ne_eqb k 0 has_words, le-ltb (length ws) k fits, stands_out s, rules)

-- an entry's number, where its route is by the rules only if it was, and the rest's number is what it was or 32
number_same : (short out rules older home : Bool) (rest before : ℕ) → (rules ≡ true → older ≡ true) → SameOr32 rest before
    → SameOr32 (number_of short out rules home rest) (number_of short out older home before)
number_same true out rules older home rest before h s = inl refl
number_same false false rules older home rest before h s = inl refl
number_same false true false older home rest before h s = inr refl
number_same false true true true false rest before h s = inl refl
number_same false true true true true rest before h s = s
number_same false true true false home rest before h s = absurd (true≢false (sym (h refl)))

entries_same : (n : ℕ) (t : Track) (p : Position) (ws : List ℕ) → SameOr32 (mark_entries n t p ws) (mark_entries_by ungated_steps n t p ws)
unfolding mark_entries_by mark_entry_by
entries_same zero t p ws = inl refl
entries_same (suc n) t p [] = inl refl
entries_same (suc n) t p (c ∷ []) = inl refl
entries_same (suc n) t p (c ∷ k ∷ ws) =
    number_same (eqb k 0 || ltb (length ws) k) (still_out p c) (by_rules t p c (take k ws)) (by_rules_by ungated_steps t p c (take k ws)) (ends_home t (take k ws))
    (mark_entries n t (retire c p) (drop k ws)) (mark_entries_by ungated_steps n t (retire c p) (drop k ws)) (rules_before t p c (take k ws)) (entries_same n t (retire c p) (drop k ws))

claim_same : (t : Track) (p : Position) (cs : List ℕ) → mark_claim t p cs ≡ mark_claim_by ungated_steps t p cs
unfolding mark_claim_by
claim_same t p [] = refl
claim_same t p (c ∷ cs) = ap (λ (l : List ℕ). cond (same_list (c ∷ cs) l) 0 35) (sym (named_same t p))

mark_for_same : (t : Track) (p : Position) (sheet : List ℕ) → SameOr32 (mark_for t p sheet) (mark_for_by ungated_steps t p sheet)
unfolding mark_for_by
mark_for_same t p [] = inl refl
mark_for_same t p (kind ∷ ws) = go (eqb kind 0) (eqb kind 1)
  where
    go : (plan claim : Bool)
        → SameOr32 (cond plan (mark_entries (length ws) t p ws) (cond claim (mark_claim t p ws) 30))
        (cond plan (mark_entries_by ungated_steps (length ws) t p ws) (cond claim (mark_claim_by ungated_steps t p ws) 30))
    go true claim = entries_same (length ws) t p ws
    go false true = inl (claim_same t p ws)
    go false false = inl refl

mark_same : (b sheet : List ℕ) → SameOr32 (mark_of b sheet) (mark_of_by ungated_steps b sheet)
unfolding mark_of_by
mark_same b sheet = go (eqb (refusal b) 0)
  where
    go : (accepted : Bool)
        → SameOr32 (cond accepted (mark_for (track_said b) (position_said b) sheet) (refusal b))
        (cond accepted (mark_for_by ungated_steps (track_said b) (position_said b) sheet) (refusal b))
    go true = mark_for_same (track_said b) (position_said b) sheet
    go false = inl refl

pub mark_or_32 : MarksOr32
mark_or_32 b sheet = record { mark = mark_same b sheet; passed = λ e. passed e (mark_same b sheet) }
  where
    passed : mark_of b sheet ≡ 0 → SameOr32 (mark_of b sheet) (mark_of_by ungated_steps b sheet) → mark_of_by ungated_steps b sheet ≡ 0
    passed e (inl same) = sym same ∙ e
    passed e (inr fails) = absurd (omega arith)

-- The sheet: what a candidate writes, when it is right, and the number that the marker gives it: by any test of one step, and then by that
-- of the moving rule.
use Rattle.std.specs.Prelude.{ℕ, zero, suc, ◌+◌, ◌*◌, ◌≡◌, Bool, true, false, cond, not, ◌&&◌, ◌||◌, ◌⊎◌, ◌↔◌, length, take, drop, ltb, eqb}
use mathlib.Core.List.{List, [], ◌∷◌, Memᴰ}
use Rattle.model.specs.Lists.{any_of, Ascending}
use Rattle.model.specs.Track.{Track, zone_of, heading_of}
use Rattle.model.specs.Position.{Position, at, carrier_of, retire, outs}
use Rattle.model.specs.Reading.{refusal, track_said, position_said}
use Rattle.rules.specs.Routes.{Entry, Retires, Empty, Blocked}
use Rattle.rules.specs.Key.{StepTest, steps, leaves_home, plan_words, named_by}

-- first 0, then a plan in the key's form: an order of all carriers out with routes, any order and routes
pub record OrderGiven (t : Track) (p : Position) (sheet : List ℕ) : Type 0 where
  pub entries : List Entry
  pub last : Position
  pub written : sheet ≡ 0 ∷ plan_words entries
  pub retires : Retires t p entries last
  pub empty : Empty last

-- first 1, then exactly the blocked carriers ascending, of which there are some
pub record BlockedNamed (t : Track) (p : Position) (sheet : List ℕ) : Type 0 where
  pub list : List ℕ
  pub written : sheet ≡ 1 ∷ list
  pub not_empty : list ≡ [] → ⊥
  pub ascending : Ascending list
  pub blocked : (c : ℕ) → Memᴰ c list ↔ Blocked t p c

-- demand 2: a sheet passes exactly if it is right
abbrev pub Right : Track → Position → List ℕ → Type 0
Right t p sheet = OrderGiven t p sheet ⊎ BlockedNamed t p sheet

-- the carrier is still out
unfoldable pub still_out : Position → ℕ → Bool
still_out p c = not (eqb c 0) && any_of (λ v. eqb (carrier_of v) c) p

-- the last word leaves at the home point
unfoldable pub ends_home : Track → List ℕ → Bool
ends_home t [] = false
ends_home t (w ∷ []) = leaves_home t w
ends_home t (w ∷ v ∷ vs) = ends_home t (v ∷ vs)

-- at the end: 34 where a carrier is still out
unfoldable pub mark_end : Position → ℕ
mark_end p = cond (eqb (length (outs p)) 0) 0 34

-- the four tests of an entry in their order; one that passes them all leaves the number of the rest
abbrev pub number_of : Bool → Bool → Bool → Bool → ℕ → ℕ
number_of short out rules home rest =
    cond short 30
    (cond (not out) 31
    (cond (not rules) 32
    (cond (not home) 33 rest)))

-- the two lists are the same
unfoldable pub same_list : List ℕ → List ℕ → Bool
same_list [] [] = true
same_list [] (b ∷ m) = false
same_list (a ∷ l) [] = false
same_list (a ∷ l) (b ∷ m) = eqb a b && same_list l m

-- By any test of one step.
module _ (test : StepTest) where
  module _ (t : Track) (p : Position) (c : ℕ) where
    -- each word is below 2 × Z and follows the one before by the test
    unfoldable pub follow_by : ℕ → List ℕ → Bool
    follow_by w [] = true
    follow_by w (v ∷ vs) = ltb v (2 * t.zones) && (test t p c w v && follow_by v vs)

    -- the first word is the carrier's standing, and the others follow
    unfoldable pub by_rules_by : List ℕ → Bool
    by_rules_by [] = false
    by_rules_by (w ∷ vs) = ltb w (2 * t.zones) && (eqb (at p (zone_of w)) (2 * c + heading_of w) && follow_by w vs)

  -- one entry, and then the rest: 30 for an entry with under two words, count 0 or a count past the end; 31 for a carrier that
  -- isn't still out; 32 for a word against the rules; 33 for a route that doesn't leave at home
  unfoldable pub mark_entry_by : Track → Position → List ℕ → (Position → List ℕ → ℕ) → ℕ
  mark_entry_by t p [] rest = mark_end p
  mark_entry_by t p (c ∷ []) rest = 30
  mark_entry_by t p (c ∷ k ∷ ws) rest =
      let route = take k ws in
      number_of (eqb k 0 || ltb (length ws) k) (still_out p c) (by_rules_by t p c route) (ends_home t route) (rest (retire c p) (drop k ws))

  -- entry by entry; there are no more entries than words
  unfoldable pub mark_entries_by : ℕ → Track → Position → List ℕ → ℕ
  mark_entries_by zero t p ws = mark_end p
  mark_entries_by (suc n) t p ws = mark_entry_by t p ws (mark_entries_by n t)

  -- a claim of blocked is right only with the true, non-empty list
  unfoldable pub mark_claim_by : Track → Position → List ℕ → ℕ
  mark_claim_by t p [] = 35
  mark_claim_by t p (c ∷ cs) = cond (same_list (c ∷ cs) (named_by test t p)) 0 35

  unfoldable pub mark_for_by : Track → Position → List ℕ → ℕ
  mark_for_by t p [] = 30
  mark_for_by t p (kind ∷ ws) =
      let plan = mark_entries_by (length ws) t p ws in
      let claim = mark_claim_by t p ws in
      cond (eqb kind 0) plan (cond (eqb kind 1) claim 30)

  -- the number of a sheet on a board in bytes: 1 to 9 for a bad board
  unfoldable pub mark_of_by : List ℕ → List ℕ → ℕ
  mark_of_by b sheet =
      let m = mark_for_by (track_said b) (position_said b) sheet in
      cond (eqb (refusal b) 0) m (refusal b)

-- By the moving rule.

abbrev pub follow : Track → Position → ℕ → ℕ → List ℕ → Bool
follow = follow_by steps

abbrev pub by_rules : Track → Position → ℕ → List ℕ → Bool
by_rules = by_rules_by steps

abbrev pub mark_entry : Track → Position → List ℕ → (Position → List ℕ → ℕ) → ℕ
mark_entry = mark_entry_by steps

abbrev pub mark_entries : ℕ → Track → Position → List ℕ → ℕ
mark_entries = mark_entries_by steps

abbrev pub mark_claim : Track → Position → List ℕ → ℕ
mark_claim = mark_claim_by steps

abbrev pub mark_for : Track → Position → List ℕ → ℕ
mark_for = mark_for_by steps

abbrev pub mark_of : List ℕ → List ℕ → ℕ
mark_of = mark_of_by steps

-- The key: while any can go, the lowest-numbered carrier that can leaves next, by its least route. By any test of one step, and then by that of the
-- moving rule.
use Rattle.std.specs.Prelude.{ℕ, zero, suc, ◌+◌, ◌*◌, List, [], ◌∷◌, ◌++◌, Bool, cond, not, ◌&&◌, ◌||◌, length, ltb, eqb}
use Rattle.std.proofs.Math.Option.{Option, none, some}
use Rattle.model.specs.Lists.{numbers_below, keep, first}
use Rattle.model.specs.Track.{Track, zone_of, start, leave}
use Rattle.model.specs.Position.{Position, at, carrier_of, retire, outs, standing}
use Rattle.model.specs.Reading.{refusal, track_said, position_said}
use Rattle.rules.specs.Routes.{Entry}
use Rattle.rules.specs.Search.{least_from}

-- word v is in a zone that is free to carrier c: nobody holds it, or c itself does
abbrev pub may_enter : Position → ℕ → ℕ → Bool
may_enter p c v = eqb (at p (zone_of v)) 0 || eqb (carrier_of (at p (zone_of v))) c

-- word v is in another zone than word w, one that is free to carrier c
abbrev pub may_follow : Position → ℕ → ℕ → ℕ → Bool
may_follow p c w v = not (eqb (zone_of v) (zone_of w)) && may_enter p c v

-- a test of one step of a carrier from one word to another
abbrev pub StepTest : Type 0
StepTest = Track → Position → ℕ → ℕ → ℕ → Bool

-- the older moving rule, tested: carrier c from word w to word v
abbrev pub ungated_steps : StepTest
ungated_steps t p c w v = eqb (start t v) (leave t w) && may_follow p c w v

-- the word leaves at the home point
abbrev pub leaves_home : Track → ℕ → Bool
leaves_home t w = eqb (leave t w) t.home

-- the moving rule, tested: no word goes on from one that leaves at the home point
abbrev pub steps : StepTest
steps t p c w v = not (leaves_home t w) && ungated_steps t p c w v

-- the zone where a carrier stands
unfoldable pub zone_for : Position → ℕ → Option ℕ
zone_for p c = first (λ z. eqb (carrier_of (at p z)) c) (numbers_below (length p))

abbrev pub goes_else : ℕ → Option (List ℕ) → Option Entry → Option Entry
goes_else c none o = o
goes_else c (some r) o = some (record { carrier = c; words = r })

-- the retirements of a key, and the position that they leave
pub record Run : Type 0 where
  pub plan : List Entry
  pub last : Position

abbrev pub run_on : Position → Option Entry → (Entry → Run) → Run
run_on p none rest = record { plan = []; last = p }
run_on p (some e) rest = record { plan = e ∷ (rest e).plan; last = (rest e).last }

-- 0 ordered, 20 some carrier blocked
abbrev pub verdict_of : List ℕ → ℕ
verdict_of [] = 0
verdict_of (c ∷ cs) = 20

-- for each carrier in turn its number, the count of words, the words
unfoldable pub plan_words : List Entry → List ℕ
plan_words [] = []
plan_words (e ∷ es) = e.carrier ∷ length e.words ∷ e.words ++ plan_words es

-- what the key gives: the verdict, the words written to the plan, the carriers written to the list
pub record KeyAnswer : Type 0 where
  pub verdict : ℕ
  pub plan : List ℕ
  pub list : List ℕ

abbrev pub turned_back : ℕ → KeyAnswer
turned_back n = record { verdict = n; plan = []; list = [] }

-- the number is one of 1 to 11, on which nothing is done
abbrev pub turns_back : ℕ → Bool
turns_back n = not (eqb n 0) && ltb n 12

-- By any test of one step.
module _ (test : StepTest) where
  -- the words that carrier c may go to from word w, ascending
  unfoldable pub nexts_by : Track → Position → ℕ → ℕ → List ℕ
  nexts_by t p c w = keep (test t p c w) (numbers_below (2 * t.zones))

  abbrev pub route_from_by : Track → Position → ℕ → Option ℕ → Option (List ℕ)
  route_from_by t p c none = none
  route_from_by t p c (some z) = least_from (nexts_by t p c) (leaves_home t) (2 * t.zones) (standing p z)

  -- the least route of carrier c, which has at most 2 × Z words
  unfoldable pub least_route_by : Track → Position → ℕ → Option (List ℕ)
  least_route_by t p c = route_from_by t p c (zone_for p c)

  -- the first of these carriers that can go, with its least route
  unfoldable pub first_to_go_by : Track → Position → List ℕ → Option Entry
  first_to_go_by t p [] = none
  first_to_go_by t p (c ∷ cs) = let o = first_to_go_by t p cs in goes_else c (least_route_by t p c) o

  -- at most n retirements, the lowest-numbered carrier that can go first
  unfoldable pub run_for_by : ℕ → Track → Position → Run
  run_for_by zero t p = record { plan = []; last = p }
  run_for_by (suc n) t p = run_on p (first_to_go_by t p (outs p)) (λ e. run_for_by n t (retire e.carrier p))

  -- all that can go home: at most C of them
  unfoldable pub run_by : Track → Position → Run
  run_by t p = run_for_by (length (outs p)) t p

  -- the named carriers, ascending
  unfoldable pub named_by : Track → Position → List ℕ
  named_by t p = outs (run_by t p).last

  unfoldable pub key_for_by : Track → Position → KeyAnswer
  key_for_by t p = record { verdict = verdict_of (named_by t p); plan = plan_words (run_by t p).plan; list = named_by t p }

  -- row 10: the plan lent has under C × (2 + 2 × Z) words; row 11: the list lent has under C words
  unfoldable pub key_in_by : Track → Position → ℕ → ℕ → KeyAnswer
  key_in_by t p planRoom listRoom =
      let k = key_for_by t p in
      cond (ltb planRoom (length (outs p) * (2 + 2 * t.zones))) (turned_back 10)
      (cond (ltb listRoom (length (outs p))) (turned_back 11) k)

  -- the key of a board in bytes, with this room lent
  unfoldable pub key_of_by : List ℕ → ℕ → ℕ → KeyAnswer
  key_of_by b planRoom listRoom =
      let k = key_in_by (track_said b) (position_said b) planRoom listRoom in
      cond (eqb (refusal b) 0) k (turned_back (refusal b))

-- By the moving rule.

abbrev pub nexts : Track → Position → ℕ → ℕ → List ℕ
nexts = nexts_by steps

abbrev pub route_from : Track → Position → ℕ → Option ℕ → Option (List ℕ)
route_from = route_from_by steps

abbrev pub least_route : Track → Position → ℕ → Option (List ℕ)
least_route = least_route_by steps

abbrev pub first_to_go : Track → Position → List ℕ → Option Entry
first_to_go = first_to_go_by steps

abbrev pub run_for : ℕ → Track → Position → Run
run_for = run_for_by steps

abbrev pub run : Track → Position → Run
run = run_by steps

abbrev pub named : Track → Position → List ℕ
named = named_by steps

abbrev pub key_for : Track → Position → KeyAnswer
key_for = key_for_by steps

abbrev pub key_in : Track → Position → ℕ → ℕ → KeyAnswer
key_in = key_in_by steps

abbrev pub key_of : List ℕ → ℕ → ℕ → KeyAnswer
key_of = key_of_by steps

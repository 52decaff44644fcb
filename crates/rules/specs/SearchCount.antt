-- The search count of the key (request j of document 02): for every carrier tried, lowest first in each round up to and with the one that goes, the
-- zone-and-heading pairs reachable from its standing, which is one of them, the others standing still. By any test of one step, and then by that of
-- the moving rule.
use Rattle.std.specs.Prelude.{ℕ, zero, suc, ◌+◌, ◌*◌, List, [], ◌∷◌, ◌++◌, Bool, ◌||◌, length, eqb}
use Rattle.std.proofs.Math.Option.{Option, none, some}
use Rattle.model.specs.Lists.{numbers_below, keep, any_of, n_times}
use Rattle.model.specs.Track.{Track}
use Rattle.model.specs.Position.{Position, retire, outs, standing}
use Rattle.rules.specs.Routes.{Entry}
use Rattle.rules.specs.Key.{StepTest, steps, nexts_by, zone_for, least_route_by, first_to_go_by}

-- word v is among these words, or comes next after one of them
abbrev pub among_or_next : (ℕ → List ℕ) → List ℕ → ℕ → Bool
among_or_next nexts ws v = any_of (eqb v) ws || any_of (λ w. any_of (eqb v) (nexts w)) ws

-- the words below n that are found from w by adding, n times, the next words of all found so far
unfoldable pub found_from : (ℕ → List ℕ) → ℕ → ℕ → List ℕ
found_from nexts n w = n_times n (λ ws. keep (among_or_next nexts ws) (numbers_below n)) (w ∷ [])

-- nothing comes after the try of a carrier that goes
abbrev pub unless_goes : Option (List ℕ) → List (List ℕ) → List (List ℕ)
unless_goes none rest = rest
unless_goes (some r) rest = []

-- after a round in which none goes there is no other
abbrev pub if_one_goes : Option Entry → (Entry → List (List ℕ)) → List (List ℕ)
if_one_goes none rest = []
if_one_goes (some e) rest = rest e

-- how many words these lists have together
abbrev pub sum_of_lengths : List (List ℕ) → ℕ
sum_of_lengths [] = 0
sum_of_lengths (ws ∷ wss) = length ws + sum_of_lengths wss

-- By any test of one step.
module _ (test : StepTest) where
  abbrev pub reached_from_by : Track → Position → ℕ → Option ℕ → List ℕ
  reached_from_by t p c none = []
  reached_from_by t p c (some z) = found_from (nexts_by test t p c) (2 * t.zones) (standing p z)

  -- the words that carrier c reaches from its standing
  unfoldable pub reached_by : Track → Position → ℕ → List ℕ
  reached_by t p c = reached_from_by t p c (zone_for p c)

  -- one round over these carriers: the words reached in the try of each, up to and with the first that goes
  unfoldable pub tried_by : Track → Position → List ℕ → List (List ℕ)
  tried_by t p [] = []
  tried_by t p (c ∷ cs) = let rest = tried_by t p cs in reached_by t p c ∷ unless_goes (least_route_by test t p c) rest

  -- at most n of the key's rounds: the words reached in each try
  unfoldable pub tries_for_by : ℕ → Track → Position → List (List ℕ)
  tries_for_by zero t p = []
  tries_for_by (suc n) t p = tried_by t p (outs p) ++ if_one_goes (first_to_go_by test t p (outs p)) (λ e. tries_for_by n t (retire e.carrier p))

  -- all of them: with C gone there is nobody to try
  unfoldable pub tries_by : Track → Position → List (List ℕ)
  tries_by t p = tries_for_by (length (outs p)) t p

  -- the search count
  unfoldable pub searched_by : Track → Position → ℕ
  searched_by t p = sum_of_lengths (tries_by t p)

-- By the moving rule.

abbrev pub reached : Track → Position → ℕ → List ℕ
reached = reached_by steps

abbrev pub tried : Track → Position → List ℕ → List (List ℕ)
tried = tried_by steps

abbrev pub tries_for : ℕ → Track → Position → List (List ℕ)
tries_for = tries_for_by steps

abbrev pub tries : Track → Position → List (List ℕ)
tries = tries_by steps

abbrev pub searched : Track → Position → ℕ
searched = searched_by steps

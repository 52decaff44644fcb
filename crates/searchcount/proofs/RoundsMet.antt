-- The definition's rounds are the key's rounds: in each try the words reached, up to and with the carrier that goes, and on while one does.
-- By induction over the carriers of a round, and over the rounds left, which are at least as many as carriers are out.
use Prim.Native.Nat.{ℕ, zero, suc, ◌+◌, ◌≤◌}
use mathlib.Core.Path.{◌≡◌, refl, sym, subst}
use mathlib.Core.List.{List, [], ◌∷◌, ◌++◌, append-nil, Memᴰ}
use mathlib.Core.Option.{Option, none, some, map}
use native.Mathlib.Omega.{arith}
use native.Mathlib.Nat.{le_refl}
use lib.ListN.{length}
use Rattle.model.specs.Track.{Track}
use Rattle.model.specs.Position.{Position, Out, retire, outs}
use Rattle.model.specs.Accepted.{Laid}
use Rattle.model.proofs.PositionLaws.{mem_outs, outs_mem, outs_ascending, outs_retire_length, laid_retire}
use Rattle.rules.specs.Routes.{Entry}
use Rattle.rules.specs.Key.{least_route, goes_else, first_to_go, first_to_go_by}
use Rattle.rules.specs.SearchCount.{unless_goes, if_one_goes, reached, tried, tried_by, tries_for, tries_for_by, tries, tries_by, searched_by, searched}
use Rattle.order.proofs.LeastRoute.{route_least_sound}
use Rattle.order.proofs.FirstToGo.{first_to_go_lem}
use Rattle.order.proofs.KeyRun.{no_least}
use Rattle.searchcount.specs.Rounds.{Round, all_tried, goes, stays, LowestOut, Rounds, last, next, Counted}
use Rattle.searchcount.proofs.Reaching.{reached_right}

-- the number of who goes
abbrev goer : Option Entry → Option ℕ
goer o = map (λ e. e.carrier) o

module _ (t : Track) where
  tried_round : (p : Position) → Laid t p → (cs : List ℕ) → ((c : ℕ) → Memᴰ c cs → Out p c) → Round t p cs (tried t p cs) (goer (first_to_go t p cs))
  unfolding tried_by first_to_go_by
  tried_round p laid [] out = all_tried
  tried_round p laid (c ∷ cs) out = go (least_route t p c) refl (tried_round p laid cs (λ d m. out d (Memᴰ.tail m)))
    where
      here : Out p c
      here = out c (Memᴰ.head refl)

      go : (o : Option (List ℕ)) → least_route t p c ≡ o → Round t p cs (tried t p cs) (goer (first_to_go t p cs))
          → Round t p (c ∷ cs) (reached t p c ∷ unless_goes o (tried t p cs)) (goer (goes_else c o (first_to_go t p cs)))
      go (some r) e rest = goes (reached_right t p laid here) (r, (route_least_sound laid.once here.1.numbered e).0)
      go none e rest = stays (reached_right t p laid here) (no_least laid e) rest

  lowest_outs : (p : Position) → Laid t p → LowestOut p (outs p)
  lowest_outs p laid = record { ascending = outs_ascending p laid.once; out = λ c. (λ m. mem_outs p m, λ o. outs_mem p o) }

  tries_rounds : (n : ℕ) (p : Position) → Laid t p → length (outs p) ≤ n → Rounds t p (tries_for n t p)
  unfolding tries_for_by
  tries_rounds zero p laid few = last (lowest_outs p laid) (go (outs p) few)
    where
      go : (cs : List ℕ) → length cs ≤ 0 → Round t p cs [] none
      go [] h = all_tried
      go (c ∷ cs) h = absurd (omega arith)
  tries_rounds (suc n) p laid few = go (first_to_go t p (outs p)) refl (tried_round p laid (outs p) (λ c m. mem_outs p m)) (tries_rounds n)
    where
      go : (o : Option Entry) → first_to_go t p (outs p) ≡ o → Round t p (outs p) (tried t p (outs p)) (goer (first_to_go t p (outs p)))
          → ((q : Position) → Laid t q → length (outs q) ≤ n → Rounds t q (tries_for n t q))
          → Rounds t p (tried t p (outs p) ++ if_one_goes o (λ e. tries_for n t (retire e.carrier p)))
      go none f round ih =
          subst (Rounds t p) (sym (append-nil (tried t p (outs p))))
          (last (lowest_outs p laid) (subst (λ (o : Option Entry). Round t p (outs p) (tried t p (outs p)) (goer o)) f round))
      go (some e) f round ih =
          let a = first_to_go_lem t p (outs p) (outs_ascending p laid.once) f in
          let fewer : length (outs (retire e.carrier p)) + 1 ≡ length (outs p) = outs_retire_length e.carrier p laid.once (mem_outs p a.among) in
          next (lowest_outs p laid) (subst (λ (o : Option Entry). Round t p (outs p) (tried t p (outs p)) (goer o)) f round)
          (ih (retire e.carrier p) (laid_retire t e.carrier p laid) (omega arith))

  pub searched_counted : (p : Position) → Laid t p → Counted t p (searched t p)
  unfolding searched_by tries_by
  searched_counted p laid = record { tries = tries t p; rounds = tries_rounds (length (outs p)) p laid (le_refl _); summed = refl }

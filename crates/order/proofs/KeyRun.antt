-- The key's plan retires the lowest-numbered carrier that can go, by its least route, up to a position in which none can go.
-- By induction over the number of turns left, which is at least the number of carriers out.
use Prim.Native.Nat.{ℕ, zero, suc, ◌+◌, ◌≤◌, ◌<◌}
use mathlib.Core.Path.{◌≡◌, refl}
use mathlib.Core.List.{List, [], ◌∷◌, Memᴰ}
use mathlib.Core.Option.{Option, none, some}
use native.Mathlib.Omega.{arith}
use native.Mathlib.Nat.{le_refl}
use lib.ListN.{length}
use Rattle.model.specs.Track.{Track}
use Rattle.model.specs.Position.{Position, Out, retire, outs}
use Rattle.model.specs.Accepted.{Laid}
use Rattle.model.proofs.PositionLaws.{mem_outs, outs_mem, outs_ascending, outs_retire_length, laid_retire}
use Rattle.rules.specs.Routes.{RetiresBy, Entry, Retires}
use Rattle.rules.specs.Tries.{CanGo, NoneCanGo}
use Rattle.rules.specs.Key.{least_route, first_to_go, run_on, run_for, run_for_by, run, run_by}
use Rattle.order.specs.LowestFirst.{LowestFirst, ended, leaves}
use Rattle.order.proofs.Within.{laid_within}
use Rattle.order.proofs.LastPosition.{goer_out, within_retires}
use Rattle.order.proofs.LeastRoute.{route_least_exists, route_least}
use Rattle.order.proofs.FirstToGo.{First, first_to_go_lem, none_to_go}

-- the order holds a sequence of retirements, and none can go after it
pub lowest_retires : {t : Track} {p q : Position} {es : List Entry} → LowestFirst t p es q → Retires t p es q
lowest_retires (ended n) = RetiresBy.done
lowest_retires (leaves l r rest) = RetiresBy.next r.goes (lowest_retires rest)

pub lowest_ends : {t : Track} {p q : Position} {es : List Entry} → LowestFirst t p es q → NoneCanGo t q
lowest_ends (ended n) = n
lowest_ends (leaves l r rest) = lowest_ends rest

pub retires_laid : {t : Track} {p q : Position} {es : List Entry} → Retires t p es q → Laid t p → Laid t q
retires_laid rs laid = laid_within (within_retires rs) laid

-- a carrier with no least route cannot go
pub no_least : {t : Track} {p : Position} {c : ℕ} → Laid t p → least_route t p c ≡ none → CanGo t p c → ⊥
no_least laid e g = let f = route_least_exists laid g in let z : ◌≡◌ {A = ℕ} 0 1 = cc f.1 in omega arith

out_counted : (p : Position) {c : ℕ} → Out p c → 0 < length (outs p)
out_counted p {c} o = go (outs p) (outs_mem p o)
  where
    go : (l : List ℕ) → Memᴰ c l → 0 < length l
    go [] m = absurd (elim m [ ])
    go (d ∷ l) m = omega arith

module _ (t : Track) where
  run_for_lowest : (n : ℕ) (p : Position) → Laid t p → length (outs p) ≤ n → LowestFirst t p (run_for n t p).plan (run_for n t p).last
  unfolding run_for_by
  run_for_lowest zero p laid few = ended (λ c g. let k : 0 < length (outs p) = out_counted p (goer_out g.1) in omega arith)
  run_for_lowest (suc n) p laid few = go (first_to_go t p (outs p)) refl (run_for_lowest n)
    where
      go : (o : Option Entry) → first_to_go t p (outs p) ≡ o → ((q : Position) → Laid t q → length (outs q) ≤ n → LowestFirst t q (run_for n t q).plan (run_for n t q).last)
          → LowestFirst t p (run_on p o (λ e. run_for n t (retire e.carrier p))).plan (run_on p o (λ e. run_for n t (retire e.carrier p))).last
      go none f ih = ended (λ c g. no_least laid (none_to_go t p (outs p) f c (outs_mem p (goer_out g.1))) g)
      go (some e) f ih =
          let a : First t p (outs p) e = first_to_go_lem t p (outs p) (outs_ascending p laid.once) f in
          let out : Out p e.carrier = mem_outs p a.among in
          let fewer : length (outs (retire e.carrier p)) + 1 ≡ length (outs p) = outs_retire_length e.carrier p laid.once out in
          leaves (λ d l g. no_least laid (a.lower d (outs_mem p (goer_out g.1)) l) g) (route_least laid.once out.1.numbered a.goes)
          (ih (retire e.carrier p) (laid_retire t e.carrier p laid) (omega arith))

  module _ (p : Position) (laid : Laid t p) where
    pub run_lowest : LowestFirst t p (run t p).plan (run t p).last
    unfolding run_by
    run_lowest = run_for_lowest (length (outs p)) p laid (le_refl _)

    pub run_retires : Retires t p (run t p).plan (run t p).last
    run_retires = lowest_retires run_lowest

    pub run_ends : NoneCanGo t (run t p).last
    run_ends = lowest_ends run_lowest

    pub run_laid : Laid t (run t p).last
    run_laid = retires_laid run_retires laid

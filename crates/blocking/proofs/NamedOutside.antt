-- Over any home's set: the key's named carriers are those that leave at a point outside it.
-- However tried, those outside stay out; and where none can go, none out leaves at a point of the set.
use Prim.Native.Nat.{ℕ}
use mathlib.Core.List.{List, Memᴰ}
use mathlib.Core.Path.{◌≡◌, subst}
use Rattle.model.specs.Track.{Track, leave}
use Rattle.model.specs.Position.{Position, Stands, Out}
use Rattle.model.specs.Accepted.{Laid}
use Rattle.model.proofs.PositionLaws.{retire_stands}
use Rattle.rules.specs.Tries.{CanGo, Try, went, refused, Tries, untried, more}
use Rattle.rules.specs.Key.{run, named}
use Rattle.order.proofs.Within.{Within, within_self, within_trans, stands_before}
use Rattle.order.proofs.LastPosition.{within_try, tries_of_retires}
use Rattle.order.proofs.KeyRun.{run_retires, run_ends}
use Rattle.order.proofs.Named.{named_left, last_within}
use Rattle.blocking.proofs.HomeSet.{Closed, HomeSet}
use Rattle.blocking.proofs.LeftBySearch.{home_leaves_home}
use Rattle.blocking.proofs.LeftByCollapse.{left_stays}

module _ {t : Track} {p : Position} (laid : Laid t p) {H : ℕ → Type 0} (closed : Closed t p H) where
  -- every carrier that leaves outside stands in q as at first
  abbrev AllStill : Position → Type 0
  AllStill q = (d w : ℕ) → Stands p d w → (H (leave t w) → ⊥) → Stands q d w

  still_try : {q : Position} {c : ℕ} {r : Position} → Within q p → AllStill q → Try t q c r → AllStill r
  still_try {c = c} within still (went can) d w s out =
      retire_stands c (still d w s out) (λ e. left_stays laid closed within still d w s out (subst (CanGo t _) e can))
  still_try within still (refused cannot) d w s out = still d w s out

  still_tries : {q r : Position} {cs : List ℕ} → Within q p → AllStill q → Tries t q cs r → AllStill r
  still_tries within still untried = still
  still_tries within still (more y ts) = still_tries (within_trans (within_try y) within) (still_try within still y) ts

  -- however tried, a carrier that leaves outside stands as at first
  pub outside_stands : {q : Position} {cs : List ℕ} → Tries t p cs q → (c w : ℕ) → Stands p c w → (H (leave t w) → ⊥) → Stands q c w
  outside_stands ts = still_tries (within_self p) (λ d w s out. s) ts

  -- and is named
  pub outside_named : (c w : ℕ) → Stands p c w → (H (leave t w) → ⊥) → Memᴰ c (named t p)
  outside_named c w s out = (named_left t p).1 (w, outside_stands (tries_of_retires (run_retires t p laid)) c w s out)

-- a named carrier leaves outside
pub named_outside : {t : Track} {p : Position} → Laid t p → {H : ℕ → Type 0} → HomeSet t p H → (c w : ℕ) → Memᴰ c (named t p) → Stands p c w → H (leave t w) → ⊥
named_outside {t} {p} laid {H} home c w m s i =
    let out : Out (run t p).last c = (named_left t p).0 m in
    let same : w ≡ out.0 = laid.once c w out.0 s (stands_before (last_within t p laid) out.1) in
    home_leaves_home laid (last_within t p laid) (run_ends t p laid) home c out.0 out.1 (subst (λ (v : ℕ). H (leave t v)) same i)

-- Every list of tries, of any numbers whatever, leads from a laid position to one position and no other.
-- Whether a carrier can go is decided, so each try goes or is refused and not both.
use Prim.Native.Nat.{ℕ}
use mathlib.Core.Path.{◌≡◌, refl, sym, subst}
use mathlib.Core.List.{List, [], ◌∷◌}
use mathlib.Core.Logic.{◌⊎◌, inl, inr}
use Rattle.model.specs.Track.{Track}
use Rattle.model.specs.Position.{Position, retire}
use Rattle.model.specs.Accepted.{Laid}
use Rattle.rules.specs.Tries.{CanGo, Try, went, refused, Tries}
use Rattle.order.proofs.Within.{laid_within}
use Rattle.order.proofs.LastPosition.{within_try}
use Rattle.order.proofs.LeastRoute.{can_go_decided}

module _ {t : Track} where
  pub try_exists : {p : Position} → Laid t p → (c : ℕ) → (q : Position) × Try t p c q
  try_exists {p} laid c = go (can_go_decided laid c)
    where
      go : CanGo t p c ⊎ (CanGo t p c → ⊥) → (q : Position) × Try t p c q
      go (inl g) = (retire c p, went g)
      go (inr n) = (p, refused n)

  pub try_one : {p : Position} {c : ℕ} {q r : Position} → Try t p c q → Try t p c r → q ≡ r
  try_one (went g) (went h) = refl
  try_one (went g) (refused n) = absurd (n g)
  try_one (refused n) (went g) = absurd (n g)
  try_one (refused n) (refused m) = refl

  pub tries_exist : {p : Position} → Laid t p → (cs : List ℕ) → (q : Position) × Tries t p cs q
  tries_exist {p} laid [] = (p, Tries.untried)
  tries_exist {p} laid (c ∷ cs) =
      let y = try_exists laid c in
      let r = tries_exist {p = y.0} (laid_within (within_try y.1) laid) cs in
      (r.0, Tries.more y.1 r.1)

  pub tries_one : {p q r : Position} {cs : List ℕ} → Tries t p cs q → Tries t p cs r → q ≡ r
  tries_one Tries.untried Tries.untried = refl
  tries_one (Tries.more y ts) (Tries.more {r = r} {cs = cs} z us) = tries_one ts (subst (λ (a : Position). Tries t a cs r) (sym (try_one y z)) us)

-- What the key's verdict says of the board: 0 exactly where it is ordered, and where none is blocked; 20 exactly where some carrier is.
-- By whether the list of named carriers, which are the blocked ones, is empty.
use Prim.Native.Nat.{ℕ}
use mathlib.Core.Path.{◌≡◌, refl, ap}
use mathlib.Core.List.Memᴰ
use mathlib.Core.List.{List, [], ◌∷◌, Memᴰ}
use mathlib.Core.Logic.{◌⊎◌, inl, inr, ◌↔◌}
use native.Mathlib.Omega.{arith}
use Rattle.model.specs.Track.{Track}
use Rattle.model.specs.Position.{Position}
use Rattle.model.specs.Accepted.{Laid}
use Rattle.rules.specs.Routes.{Ordered, Blocked}
use Rattle.rules.specs.Key.{named, verdict_of}
use Rattle.order.proofs.Named.{no_members, named_blocked, blocked_named, unnamed_ordered, ordered_unnamed}

pub zero_none : (l : List ℕ) → verdict_of l ≡ 0 → l ≡ []
zero_none [] e = refl
zero_none (c ∷ l) e = absurd (omega arith)

twenty_some : (l : List ℕ) → verdict_of l ≡ 20 → (c : ℕ) × Memᴰ c l
twenty_some [] e = absurd (omega arith)
twenty_some (c ∷ l) e = (c, Memᴰ.head refl)

some_twenty : (l : List ℕ) {c : ℕ} → Memᴰ c l → verdict_of l ≡ 20
some_twenty [] m = absurd (Memᴰ.not-nil m)
some_twenty (c ∷ l) m = refl

-- there is no other verdict
pub verdict_cases : (l : List ℕ) → (verdict_of l ≡ 0) ⊎ (verdict_of l ≡ 20)
verdict_cases [] = inl refl
verdict_cases (c ∷ l) = inr refl

module _ (t : Track) (p : Position) (laid : Laid t p) where
  pub verdict_ordered : (verdict_of (named t p) ≡ 0) ↔ Ordered t p
  verdict_ordered = (λ e. unnamed_ordered t p laid (zero_none (named t p) e), λ o. ap verdict_of (ordered_unnamed t p laid o))

  pub verdict_none_blocked : (verdict_of (named t p) ≡ 0) ↔ ((c : ℕ) → Blocked t p c → ⊥)
  verdict_none_blocked = (
    λ e c b. Memᴰ.not-nil (rw (zero_none (named t p) e) at (blocked_named t p laid b)),
    λ h. ap verdict_of (no_members (named t p) (λ c m. h c (named_blocked t p laid m))),
  )

  pub verdict_some_blocked : (verdict_of (named t p) ≡ 20) ↔ ((c : ℕ) × Blocked t p c)
  verdict_some_blocked = (
    λ e. let r = twenty_some (named t p) e in (r.0, named_blocked t p laid r.1),
    λ r. some_twenty (named t p) (blocked_named t p laid r.1),
  )

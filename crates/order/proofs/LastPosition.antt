-- However tried, what is out in a last position stays; and where none can go, only what is out in the last one is out.
-- By induction over the tries and over the retirements, each step with the routes of positions within.
use Prim.Native.Nat.{ℕ}
use mathlib.Core.Path.{◌≡◌}
use mathlib.Core.List.{List, map}
use Rattle.model.specs.Track.{Track}
use Rattle.model.specs.Position.{Position, Out, Once}
use Rattle.rules.specs.Routes.{RetiresBy, Route, route, Entry, Retires}
use Rattle.rules.specs.Tries.{NoneCanGo, Try, went, refused, Tries}
use Rattle.order.proofs.Within.{Within, within_self, within_trans, route_within, once_within}
use Rattle.order.proofs.Fewer.{within_retire, within_retired}

-- 0 has no route
pub goer_numbered : {t : Track} {p : Position} {c : ℕ} {r : List ℕ} → Route t p c r → c ≡ 0 → ⊥
goer_numbered (route s o) = s.numbered

-- who has a route is out
pub goer_out : {t : Track} {p : Position} {c : ℕ} {r : List ℕ} → Route t p c r → Out p c
goer_out (route {w = w} s o) = (w, s)

pub within_try : {t : Track} {p : Position} {c : ℕ} {q : Position} → Try t p c q → Within q p
within_try {p = p} {c = c} (went g) = within_retired c p
within_try {p = p} (refused n) = within_self p

pub within_tries : {t : Track} {p q : Position} {cs : List ℕ} → Tries t p cs q → Within q p
within_tries {p = p} Tries.untried = within_self p
within_tries (Tries.more y ts) = within_trans (within_tries ts) (within_try y)

pub within_retires : {t : Track} {p q : Position} {es : List Entry} → Retires t p es q → Within q p
within_retires {p = p} RetiresBy.done = within_self p
within_retires {p = p} (RetiresBy.next {e = e} r rs) = within_trans (within_retires rs) (within_retired e.carrier p)

-- a sequence of retirements is a list of tries, none of them refused
pub tries_of_retires : {t : Track} {p q : Position} {es : List Entry} → Retires t p es q → Tries t p (map (λ e. e.carrier) es) q
tries_of_retires RetiresBy.done = Tries.untried
tries_of_retires (RetiresBy.next {e = e} r rs) = Tries.more (went (e.words, r)) (tries_of_retires rs)

module _ {t : Track} {last : Position} (ended : NoneCanGo t last) where
  -- who can go is not out in a last position within, since it could go there too by the same route
  pub goer_not_left : {p : Position} {c : ℕ} {r : List ℕ} → Once p → Within last p → Route t p c r → Out last c → ⊥
  goer_not_left {c = c} {r} once a g out = ended c (r, route_within once a out g)

  stays_try : {p : Position} {c : ℕ} {q : Position} → Once p → Within last p → Try t p c q → Within last q
  stays_try {c = c} once a (went (r, g)) = within_retire c a (goer_numbered g) (goer_not_left once a g)
  stays_try once a (refused n) = a

  -- the last position stays within all that tries lead to
  pub stays_tries : {p q : Position} {cs : List ℕ} → Once p → Within last p → Tries t p cs q → Within last q
  stays_tries once a Tries.untried = a
  stays_tries once a (Tries.more y ts) = stays_tries (once_within (within_try y) once) (stays_try once a y) ts

  -- a last position is within what retirements from a position around it lead to
  pub within_last : {p q : Position} {es : List Entry} → Once p → Within last p → Retires t p es q → Within last q
  within_last once a rs = stays_tries once a (tries_of_retires rs)

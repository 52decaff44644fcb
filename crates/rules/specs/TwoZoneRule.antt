-- What the two-zone rule is for (request g of document 02): on boards that it or the next row refuses, one carrier alone may be blocked; on the
-- accepted boards beside them none is, or two are.
use Rattle.std.specs.Prelude.{ℕ, List, [], ◌∷◌}
use Rattle.rules.specs.Rows.{Row, accepted_board, on_refused}
use Rattle.rules.specs.TurningLoops.{zone, free, laid_out}

-- two free zones between home and point 1, then these
abbrev beyond : ℕ → List (List ℕ) → List ℕ
beyond points zones = laid_out points (free 0 1 ∷ free 0 1 ∷ zones)

unfoldable pub two_zone_rule : List Row
two_zone_rule =
    -- carrier 5 heads for point 2, which has no other zone: it is blocked, alone; turned round it goes
    on_refused (beyond 3 (zone 1 2 5 0 ∷ [])) 8 (record { verdict = 20; plan = []; list = 5 ∷ [] }) ∷
    on_refused (beyond 3 (zone 1 2 5 1 ∷ [])) 8 (record { verdict = 0; plan = 5 ∷ 2 ∷ 5 ∷ 1 ∷ []; list = [] }) ∷
    -- so is a carrier where the points don't hang together
    on_refused (beyond 4 (zone 2 3 5 0 ∷ free 2 3 ∷ [])) 9 (record { verdict = 20; plan = []; list = 5 ∷ [] }) ∷
    -- a second zone at point 2 gives a way home, a turning loop there a loop to turn in
    accepted_board (beyond 3 (zone 1 2 5 0 ∷ free 1 2 ∷ [])) 0 (5 ∷ 3 ∷ 4 ∷ 7 ∷ 1 ∷ []) [] ∷
    accepted_board (beyond 3 (zone 1 2 5 0 ∷ free 2 2 ∷ [])) 0 (5 ∷ 4 ∷ 4 ∷ 6 ∷ 5 ∷ 1 ∷ []) [] ∷
    -- where another carrier holds it, both are blocked
    accepted_board (beyond 3 (zone 1 2 5 0 ∷ zone 1 2 6 0 ∷ [])) 20 [] (5 ∷ 6 ∷ []) ∷
    accepted_board (beyond 3 (zone 1 2 5 0 ∷ zone 2 2 6 0 ∷ [])) 20 [] (5 ∷ 6 ∷ []) ∷ []

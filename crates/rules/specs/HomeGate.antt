-- The home gate (request d of document 02): sheets whose routes run through the home point, with their marks by the older moving rule and now;
-- the words that follow one that leaves there; and single moves of a carrier that heads there.
use Rattle.std.specs.Prelude.{ℕ, List, [], ◌∷◌}
use Rattle.rules.specs.Tries.{Move, into, home}
use Rattle.rules.specs.Starred.{board_t}
use Rattle.rules.specs.Table.{board_k}
use Rattle.rules.specs.TurningLoops.{loop_at_home}
use Rattle.rules.specs.Rows.{Row, at_gate, from_word}

-- board T with carrier 7 in zone 0, heading for home
unfoldable pub near_home : List ℕ
near_home = board_t 7 1 0 0

-- the same with the other point for home: 7 heads away from it
unfoldable pub other_home : List ℕ
other_home = 0 ∷ 12 ∷ 1 ∷ 2 ∷ 1 ∷ 2 ∷ 0 ∷ 1 ∷ 7 ∷ 1 ∷ 0 ∷ 1 ∷ 0 ∷ 0 ∷ []

unfoldable pub home_gate : List Row
home_gate =
    -- a route that runs through home and on, from a later word and from its first; one that runs on and doesn't come back
    at_gate board_k (0 ∷ 7 ∷ 4 ∷ 0 ∷ 3 ∷ 0 ∷ 3 ∷ []) 0 32 ∷
    at_gate near_home (0 ∷ 7 ∷ 3 ∷ 1 ∷ 2 ∷ 1 ∷ []) 0 32 ∷
    at_gate near_home (0 ∷ 7 ∷ 2 ∷ 1 ∷ 2 ∷ []) 33 32 ∷
    at_gate loop_at_home (0 ∷ 5 ∷ 3 ∷ 5 ∷ 0 ∷ 3 ∷ []) 0 32 ∷
    -- with another home, and in a later entry
    at_gate other_home (0 ∷ 7 ∷ 4 ∷ 1 ∷ 2 ∷ 1 ∷ 2 ∷ []) 0 32 ∷
    at_gate other_home (0 ∷ 7 ∷ 2 ∷ 1 ∷ 2 ∷ []) 0 0 ∷
    at_gate (board_t 7 1 9 1) (0 ∷ 9 ∷ 1 ∷ 3 ∷ 7 ∷ 3 ∷ 1 ∷ 2 ∷ 1 ∷ []) 0 32 ∷
    -- the gate is the last word's to go through, and a route that keeps the gate has the number that it had
    at_gate near_home (0 ∷ 7 ∷ 1 ∷ 1 ∷ []) 0 0 ∷
    at_gate loop_at_home (0 ∷ 5 ∷ 1 ∷ 5 ∷ []) 0 0 ∷
    at_gate board_k (0 ∷ 7 ∷ 2 ∷ 0 ∷ 3 ∷ []) 0 0 ∷
    at_gate board_k (0 ∷ 7 ∷ 1 ∷ 0 ∷ []) 33 33 ∷
    -- the numbers before 32 come first
    at_gate near_home (0 ∷ 7 ∷ 4 ∷ 1 ∷ 2 ∷ 1 ∷ []) 30 30 ∷
    at_gate near_home (0 ∷ 8 ∷ 3 ∷ 1 ∷ 2 ∷ 1 ∷ []) 31 31 ∷
    -- no word follows one that leaves at home; from elsewhere a zone at the home point is entered as before
    from_word near_home 7 1 (2 ∷ []) [] ∷
    from_word loop_at_home 5 5 (0 ∷ 2 ∷ []) [] ∷
    from_word near_home 7 2 (1 ∷ []) (1 ∷ []) ∷ []

-- single moves on board K: 7 goes into word 3, which leaves at home; then into word 0, which the gate forbids; then into home
unfoldable pub gate_moves : List Move
gate_moves = into 7 3 ∷ into 7 0 ∷ home 7 ∷ []

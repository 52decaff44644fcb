-- A move log (request a of document 02): pairs of 16-bit words, the carrier, then the word of the zone entered, or 65,535 for home.
use Rattle.std.specs.Prelude.{ℕ, List, [], ◌∷◌, cond, eqb}
use Rattle.rules.specs.Tries.{Move, into, home}

-- in the place of a word: into home
abbrev pub home_word : ℕ
home_word = 65535

-- the move that a pair says
unfoldable pub move_said : ℕ → ℕ → Move
move_said c w = cond (eqb w home_word) (home c) (into c w)

-- the moves of a log, in turn; a log with a word left over is turned back
unfoldable pub moves_said : List ℕ → List Move
moves_said [] = []
moves_said (c ∷ []) = []
moves_said (c ∷ w ∷ ws) = move_said c w ∷ moves_said ws

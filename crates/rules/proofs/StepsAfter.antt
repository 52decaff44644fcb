-- The home gate in the next words: after a word that leaves at the home point there are none, after any other they are those of the older rule.
-- The gate's part of the test is the same for all next words.
use Prim.Native.Nat.{ℕ, ◌*◌}
use mathlib.Core.Path.{◌≡◌, ap}
use mathlib.Core.List.{[]}
use mathlib.Core.Bool.{Bool, true, false, not, ◌&&◌}
use Rattle.model.specs.Lists.{numbers_below}
use Rattle.model.specs.Track.{Track}
use Rattle.model.specs.Position.{Position}
use Rattle.model.proofs.ListLaws.{keep_ext, keep_none}
use Rattle.rules.specs.Key.{leaves_home, ungated_steps, steps, nexts_by, nexts}

pub elsewhere_as_before : (t : Track) (p : Position) (c w : ℕ) → leaves_home t w ≡ false → nexts t p c w ≡ nexts_by ungated_steps t p c w
unfolding nexts_by
elsewhere_as_before t p c w e =
    keep_ext (steps t p c w) (ungated_steps t p c w) (numbers_below (2 * t.zones)) (λ v m. ap (λ (b : Bool). not b && ungated_steps t p c w v) e)

pub home_ends : (t : Track) (p : Position) (c w : ℕ) → leaves_home t w ≡ true → nexts t p c w ≡ []
unfolding nexts_by
home_ends t p c w e = keep_none (steps t p c w) (numbers_below (2 * t.zones)) (λ v m. ap (λ (b : Bool). not b && ungated_steps t p c w v) e)

-- The ways of the words that a set goes on over, made word by word; and no way leads out.
-- The laws of ways over any words, for the ends of a track.
use Prim.Native.Nat.{ℕ, ◌+◌, ◌*◌, ◌<◌}
use mathlib.Core.Path.{◌≡◌, refl, sym, subst}
use mathlib.Core.List.{List}
use mathlib.Core.Bool.{Bool, true, false}
use native.Mathlib.Nat.{lt_of_lt_of_le}
use native.Mathlib.Omega.{arith}
use lib.ListN.{length, get_or, replicate}
use Rattle.model.specs.Track.{Track, rev}
use Rattle.model.specs.Position.{Position}
use Rattle.model.specs.Accepted.{Bounded}
use Rattle.model.proofs.WordLaws.{rev_below}
use Rattle.reach.specs.Ways.{Ways}
use Rattle.reach.proofs.WayLaws.{added}
use Rattle.reach.proofs.OverLaws.{over_none as OverLaws·over-none, over_added as OverLaws·over-added, over_skip as OverLaws·over-skip, over_ways as OverLaws·over-ways}
use Rattle.parts.specs.Ways.{EndsAmong, end_of, WaysOn}

module _ (ends : List ℕ) (goes : ℕ → Bool) where
  pub over_none : WaysOn ends goes 0 (replicate 64 0)
  over_none = OverLaws·over-none (λ w. get_or ends w 0) (end_of ends) goes

  module _ (n : ℕ) (ways : List ℕ) (o : WaysOn ends goes n ways) where
    pub over_added : goes n ≡ true → get_or ends n 0 < 64 → {b : ℕ} → b ≡ end_of ends n → {more : List ℕ} → more ≡ added ways (get_or ends n 0) b → WaysOn ends goes (n + 1) more
    over_added g h e = OverLaws·over-added (λ w. get_or ends w 0) (end_of ends) goes n ways o g h {a = get_or ends n 0} refl e

    pub over_skip : goes n ≡ false → WaysOn ends goes (n + 1) ways
    over_skip = OverLaws·over-skip (λ w. get_or ends w 0) (end_of ends) goes n ways o

-- the ends of words are among the points
module _ {points zones : ℕ} {ends : List ℕ} {p : Position} (among : EndsAmong points zones ends p) where
  pub end_inside : (w : ℕ) → w < 2 * zones → end_of ends w < points
  end_inside w h = among.inside (rev w) (rev_below zones w h)

  -- the words are all
  pub over_all : {goes : ℕ → Bool} {ways : List ℕ} → WaysOn ends goes (length ends) ways → WaysOn ends goes (2 * zones) ways
  over_all {goes} {ways} o = subst (λ (n : ℕ). WaysOn ends goes n ways) among.ends_count o

  pub over_ways : {goes : ℕ → Bool} {ways : List ℕ} → WaysOn ends goes (2 * zones) ways → Ways ways
  over_ways {goes} {ways} o = OverLaws·over-ways (λ w. get_or ends w 0) (end_of ends) goes (2 * zones) ways o (λ w h. lt_of_lt_of_le (end_inside w h) among.few)

  pub among_most : EndsAmong 64 zones ends p
  among_most = record {
    positive = omega arith;
    few = omega arith;
    each = among.each;
    ends_count = among.ends_count;
    inside = λ w h. lt_of_lt_of_le (among.inside w h) among.few;
  }

  pub among_each : EndsAmong 64 (length p) ends p
  among_each = subst (λ (n : ℕ). EndsAmong 64 n ends p) (sym among.each) among_most

pub bounded_among : {t : Track} {p : Position} → Bounded t p → EndsAmong t.points t.zones t.ends p
bounded_among bounded = record {
  positive = omega (arith, bounded.laid.home_in);
  few = bounded.points_most;
  each = bounded.laid.each;
  ends_count = bounded.ends_count;
  inside = bounded.laid.inside;
}

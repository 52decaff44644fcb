-- The points of a word with the bits of home's set are the least closed set, so the word serves the theorems on the collapse.
-- The set is closed by its rules, and whatever is closed holds all of it, by induction on how a point came in.
use Prim.Native.Nat.{ℕ}
use mathlib.Core.Path.{◌≡◌}
use mathlib.Core.Bool.{true}
use Rattle.model.specs.Track.{Track}
use Rattle.model.specs.Position.{Position}
use Rattle.blocking.proofs.HomeSet.{Closed, HomeSet}
use Rattle.bits.specs.Sets.{has_bit}
use Rattle.parts.specs.Home.{Home, HomeWord}
use Rattle.parts.specs.Home.Home.{itself, over_free, over_turning, behind}

module _ {t : Track} {p : Position} where
  home_within : (S : ℕ → Type 0) → Closed t p S → {q : ℕ} → Home t p q → S q
  home_within S closed itself = closed.has_home
  home_within S closed (over_free w h f i) = closed.over_free w h f (home_within S closed i)
  home_within S closed (over_turning w h e i) = closed.over_turning w h e (home_within S closed i)
  home_within S closed (behind c w s i) = closed.behind c w s (home_within S closed i)

  pub word_least : {s : ℕ} → HomeWord t p s → HomeSet t p (λ q. has_bit s q ≡ true)
  word_least {s} home = record {
    closed = record {
      has_home = home.whole _ itself;
      over_free = λ w h f i. home.whole _ (over_free w h f (home.sound _ i));
      over_turning = λ w h e i. home.whole _ (over_turning w h e (home.sound _ i));
      behind = λ c w st i. home.whole _ (behind c w st (home.sound _ i));
    };
    least = λ S closed q h i. home_within S closed (home.sound q i);
  }

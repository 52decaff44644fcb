-- Laws of words: the two ways of a zone.
-- All by arithmetic on 2 × zone + heading.
use Prim.Native.Nat.{ℕ, ◌+◌, ◌-◌, ◌*◌, ◌<◌}
use mathlib.Core.Path.{◌≡◌, refl, ap}
use mathlib.Core.Logic.{◌⊎◌, inl, inr}
use mathlib.Core.Bool.{Bool, true, false}
use native.Mathlib.Omega.{arith}
use lib.Dec.{eqb}
use borrow.Author.Tests.{eqb-true, eqb-false}
use Rattle.model.specs.Track.{Track, zone_of, heading_of, rev, start, leave}
use Rattle.model.specs.Position.{carrier_of}

pub zone_rev : (w : ℕ) → zone_of (rev w) ≡ zone_of w
zone_rev w = omega arith

pub heading_rev : (w : ℕ) → heading_of (rev w) ≡ 1 - heading_of w
heading_rev w = omega arith

pub rev_rev : (w : ℕ) → rev (rev w) ≡ w
rev_rev w = omega arith

pub rev_below : (n w : ℕ) → w < 2 * n → rev w < 2 * n
rev_below n w h = omega arith

pub zone_below : (n w : ℕ) → w < 2 * n → zone_of w < n
zone_below n w h = omega arith

pub below_zone : (n w : ℕ) → zone_of w < n → w < 2 * n
below_zone n w h = omega arith

-- the word of a zone with heading 0
pub zone_first : (z : ℕ) → zone_of (2 * z) ≡ z
zone_first z = omega arith

pub first_below : (n z : ℕ) → z < n → 2 * z < 2 * n
first_below n z h = omega arith

pub heading_small : (w : ℕ) → heading_of w < 2
heading_small w = omega arith

pub word_parts : (w : ℕ) → 2 * zone_of w + heading_of w ≡ w
word_parts w = omega arith

pub zone_word : (z h : ℕ) → h < 2 → zone_of (2 * z + h) ≡ z
zone_word z h l = omega arith

pub heading_word : (z h : ℕ) → h < 2 → heading_of (2 * z + h) ≡ h
heading_word z h l = omega arith

pub carrier_word : (c h : ℕ) → h < 2 → carrier_of (2 * c + h) ≡ c
carrier_word c h l = omega arith

-- a zone has two words
pub same_zone : (v w : ℕ) → zone_of v ≡ zone_of w → (v ≡ w) ⊎ (v ≡ rev w)
same_zone v w e = go (eqb (heading_of v) (heading_of w)) refl
  where
    go : (t : Bool) → eqb (heading_of v) (heading_of w) ≡ t → (v ≡ w) ⊎ (v ≡ rev w)
    go true q = let h : heading_of v ≡ heading_of w = eqb-true (heading_of v) (heading_of w) q in inl (omega arith)
    go false q = let h : heading_of v ≡ heading_of w → ⊥ = eqb-false (heading_of v) (heading_of w) q in inr (omega arith)

module _ (t : Track) where
  pub leave_rev : (w : ℕ) → leave t (rev w) ≡ start t w
  leave_rev w = ap (start t) (rev_rev w)

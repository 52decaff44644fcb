-- A move that the rules allow leaves a position that is ready for what works on positions, so another move can follow; and so do moves carried out in
-- turn. It leaves a laid one, and no zone holds another number than before but the one entered, which holds the carrier's.
use Prim.Native.Nat.{ℕ, ◌+◌, ◌*◌, ◌/◌, ◌<◌}
use mathlib.Core.List.{List}
use mathlib.Core.Path.{◌≡◌, refl, ◌∙◌, ap}
use mathlib.Core.Logic.{◌⊎◌, inl, inr}
use mathlib.Core.Bool.{Bool, true, false}
use native.Mathlib.Omega.{arith}
use lib.Dec.{eqb}
use borrow.Author.Tests.{eqb-true, eqb-false}
use Rattle.model.specs.Track.{Track, zone_of, heading_of}
use Rattle.model.specs.Position.{Position, at, Stands, retire}
use Rattle.model.specs.Accepted.{Laid, Limited, held_limit, Ready}
use Rattle.model.proofs.PositionLaws.{without_cases}
use Rattle.model.proofs.MoveLaws.{moved_to, at_moved_here, at_moved_other}
use Rattle.rules.specs.Tries.{Move, Allowed, enters, arrives}
use Rattle.order.proofs.AllMoves.{allowed_laid}
use Rattle.movelog.specs.CarriedOut.{CarriedOut, none_left, next}

limited_retire : (c : ℕ) (p : Position) → Limited p → Limited (retire c p)
limited_retire c p limited z = go (without_cases (eqb c) p z)
  where
    go : (at (retire c p) z ≡ at p z) ⊎ ((eqb c (at p z / 2) ≡ true) × (at (retire c p) z ≡ 0)) → at (retire c p) z < held_limit
    go (inl e) = omega (arith, limited z)
    go (inr e) = omega (arith, e.1)

limited_moved : (t : Track) {p : Position} → Laid t p → Limited p → {c u w : ℕ} → Stands p c u → w < 2 * t.zones → Limited (moved_to p c w)
limited_moved t {p} laid limited {c} {u} {w} s below z = go (eqb z (zone_of w)) refl
  where
    go : (b : Bool) → eqb z (zone_of w) ≡ b → at (moved_to p c w) z < held_limit
    go true e =
        let here : at (moved_to p c w) z ≡ 2 * c + heading_of w = ap (at (moved_to p c w)) (eqb-true z (zone_of w) e) ∙ at_moved_here t p laid c u w s below in
        omega (arith, s.holds, limited (zone_of u))
    go false e = let other : at (moved_to p c w) z ≡ at (retire c p) z = at_moved_other t p laid c u w s below z (eqb-false z (zone_of w) e) in omega (arith, limited_retire c p limited z)

limited_allowed : {t : Track} {p q : Position} {m : Move} → Laid t p → Limited p → Allowed t p m q → Limited q
limited_allowed {t} laid limited (enters u s elsewhere below free touches) = limited_moved t laid limited s below
limited_allowed {p = p} laid limited (arrives {c} u s e) = limited_retire c p limited

pub limited_carried : {t : Track} {p q : Position} {ms : List Move} → Laid t p → Limited p → CarriedOut t p ms q → Limited q
limited_carried laid limited none_left = limited
limited_carried laid limited (next a c) = limited_carried (allowed_laid laid a) (limited_allowed laid limited a) c

pub ready_allowed : {t : Track} {p q : Position} {m : Move} → Ready t p → Allowed t p m q → Ready t q
ready_allowed ready a =
    let b = ready.bounded in
    record {
      bounded = record { laid = allowed_laid b.laid a; points_most = b.points_most; zones_most = b.zones_most; ends_count = b.ends_count };
      limited = limited_allowed b.laid ready.limited a;
    }

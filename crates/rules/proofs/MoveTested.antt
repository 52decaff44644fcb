-- A single move as tested is a single move as stated: where no carrier stands in two zones, and so on every laid position, `after_move` gives a
-- position exactly where `Allowed` leads to it, and none exactly where the move is forbidden.
-- The zone found is that of the carrier's one standing; there each part of the test is a condition of `Allowed`.
use Prim.Native.Nat.{ℕ, ◌*◌, ◌<◌}
use mathlib.Core.Path.{◌≡◌, refl, sym, ap, ◌∙◌, subst}
use mathlib.Core.Bool.{Bool, true, false, not, cond, ◌&&◌}
use mathlib.Core.Option.{Option, none, some}
use native.Mathlib.Omega.{arith}
use lib.Dec.{ltb, eqb}
use borrow.Author.Tests.{eqb-true, eqb-false, eq-eqb, ne_eqb, ltb-true, lt-ltb, not-true}
use Rattle.model.specs.Track.{Track, zone_of, start, leave}
use Rattle.model.specs.Position.{Position, at, is_free, Stands, Once, standing, retire}
use Rattle.model.proofs.BoolLaws.{and_left, and_right}
use Rattle.model.proofs.PositionLaws.{stands_word}
use Rattle.model.proofs.MoveLaws.{moved_to}
use Rattle.rules.specs.Tries.{Move, into, home, Allowed, enters, arrives}
use Rattle.rules.specs.Key.{leaves_home, zone_for}
use Rattle.rules.specs.SingleMoves.{zone_out, may_go_from, left_if, after_move_from, after_move, MoveTested, ForbiddenTested}
use Rattle.rules.proofs.Standing.{zone_stands, stands_zone}

-- the zone found for a carrier that is out, and no other
zone_out_stands : (p : Position) (c z : ℕ) → zone_out p c ≡ some z → Stands p c (standing p z)
zone_out_stands p c z e = go (eqb c 0) refl e
  where
    go : (b : Bool) → eqb c 0 ≡ b → cond b none (zone_for p c) ≡ some z → Stands p c (standing p z)
    go true q f = absurd (let r : ◌≡◌ {A = ℕ} 0 1 = cc in omega arith)
    go false q f = zone_stands p c z (eqb-false c 0 q) f

stands_zone_out : {p : Position} {c u : ℕ} → Once p → Stands p c u → zone_out p c ≡ some (zone_of u)
stands_zone_out {p} {c} once s = ap (λ (b : Bool). cond b none (zone_for p c)) (ne_eqb c 0 s.numbered) ∙ stands_zone once s

left_if_true : (b : Bool) {q r : Position} → left_if b q ≡ some r → (b ≡ true) × (q ≡ r)
left_if_true true e = (refl, cc)
left_if_true false e = absurd (let r : ◌≡◌ {A = ℕ} 0 1 = cc in omega arith)

module _ (t : Track) (p : Position) where
  -- what the test asks of a carrier that leaves its zone at this point, both ways
  may_go : (point w : ℕ) → (point ≡ t.home → ⊥) → w < 2 * t.zones → at p (zone_of w) ≡ 0 → start t w ≡ point → may_go_from t p point w ≡ true
  may_go point w elsewhere below free touches = simp (ne_eqb point t.home elsewhere, lt-ltb w (2 * t.zones) below, eq-eqb (at p (zone_of w)) 0 free, eq-eqb (start t w) point touches)

  pub asked : (point w : ℕ) → may_go_from t p point w ≡ true → (point ≡ t.home → ⊥) × (w < 2 * t.zones) × (at p (zone_of w) ≡ 0) × (start t w ≡ point)
  asked point w e =
      let rest = and_right (not (eqb point t.home)) (ltb w (2 * t.zones) && (is_free p (zone_of w) && eqb (start t w) point)) e in
      let ends = and_right (ltb w (2 * t.zones)) (is_free p (zone_of w) && eqb (start t w) point) rest in (
        eqb-false point t.home (not-true (eqb point t.home) (and_left (not (eqb point t.home)) _ e)),
        ltb-true w (2 * t.zones) (and_left (ltb w (2 * t.zones)) _ rest),
        eqb-true (at p (zone_of w)) 0 (and_left (is_free p (zone_of w)) _ ends),
        eqb-true (start t w) point (and_right (is_free p (zone_of w)) _ ends),
      )

  into_allowed : {c w u : ℕ} {q : Position} → Stands p c u → left_if (may_go_from t p (leave t u) w) (moved_to p c w) ≡ some q → Allowed t p (into c w) q
  into_allowed {c} {w} {u} s e =
      let l = left_if_true (may_go_from t p (leave t u) w) e in
      let a = asked (leave t u) w l.0 in
      subst (Allowed t p (into c w)) l.1 (enters u s a.0 (omega (arith, a.1)) a.2 a.3)

  home_allowed : {c u : ℕ} {q : Position} → Stands p c u → left_if (leaves_home t u) (retire c p) ≡ some q → Allowed t p (home c) q
  home_allowed {c} {u} s e = let l = left_if_true (leaves_home t u) e in subst (Allowed t p (home c)) l.1 (arrives u s (eqb-true (leave t u) t.home l.0))

  pub move_of_test : (m : Move) {q : Position} → after_move t p m ≡ some q → Allowed t p m q
  unfolding after_move
  move_of_test (into c w) {q} e = go (zone_out p c) refl e
    where
      go : (o : Option ℕ) → zone_out p c ≡ o → after_move_from t p (into c w) o ≡ some q → Allowed t p (into c w) q
      go none f e = absurd (let r : ◌≡◌ {A = ℕ} 0 1 = cc in omega arith)
      go (some z) f e = into_allowed (zone_out_stands p c z f) e
  move_of_test (home c) {q} e = go (zone_out p c) refl e
    where
      go : (o : Option ℕ) → zone_out p c ≡ o → after_move_from t p (home c) o ≡ some q → Allowed t p (home c) q
      go none f e = absurd (let r : ◌≡◌ {A = ℕ} 0 1 = cc in omega arith)
      go (some z) f e = home_allowed (zone_out_stands p c z f) e

  -- where a carrier stands decides its moves
  pub after_into : {c u : ℕ} (w : ℕ) → Once p → Stands p c u → after_move t p (into c w) ≡ left_if (may_go_from t p (leave t u) w) (moved_to p c w)
  unfolding after_move
  after_into {c} w once s = ap (after_move_from t p (into c w)) (stands_zone_out once s) ∙ ap (λ (v : ℕ). left_if (may_go_from t p (leave t v) w) (moved_to p c w)) (stands_word s)

  pub after_home : {c u : ℕ} → Once p → Stands p c u → after_move t p (home c) ≡ left_if (leaves_home t u) (retire c p)
  unfolding after_move
  after_home {c} once s = ap (after_move_from t p (home c)) (stands_zone_out once s) ∙ ap (λ (v : ℕ). left_if (leaves_home t v) (retire c p)) (stands_word s)

  test_of_move : Once p → {m : Move} {q : Position} → Allowed t p m q → after_move t p m ≡ some q
  test_of_move once (enters {c} {w} u s elsewhere below free touches) =
      after_into w once s ∙ ap (λ (b : Bool). left_if b (moved_to p c w)) (may_go (leave t u) w elsewhere below free touches)
  test_of_move once (arrives {c} u s e) = after_home once s ∙ ap (λ (b : Bool). left_if b (retire c p)) (eq-eqb (leave t u) t.home e)

pub move_tested : MoveTested
move_tested t p once m q = (move_of_test t p m, test_of_move t p once)

pub forbidden_tested : ForbiddenTested
forbidden_tested t p once m = (λ e q a. absurd (let f : none ≡ some q = sym e ∙ test_of_move t p once a in let r : ◌≡◌ {A = ℕ} 0 1 = cc in omega arith), go (after_move t p m) refl)
  where
    go : (o : Option Position) → after_move t p m ≡ o → ((q : Position) → Allowed t p m q → ⊥) → after_move t p m ≡ none
    go none e n = e
    go (some q) e n = absurd (n q (move_of_test t p m e))

-- Full boards: with every zone held at first, whatever single moves are made, a zone with an end outside home's set is as it was.
-- Its carrier leaves outside the set, where every zone is held; and a free zone has both ends in the set, so what enters it leaves at a point of the set.
use Prim.Native.Nat.{ℕ, ◌+◌, ◌*◌, ◌<◌}
use mathlib.Core.List.{List, Memᴰ}
use mathlib.Core.Path.{◌≡◌, refl, sym, ◌∙◌, ap, subst}
use mathlib.Core.Logic.{◌⊎◌, inl, inr}
use mathlib.Core.Bool.{Bool, true, false}
use lib.Seq.{get_or-set_other}
use lib.Dec.{eqb}
use borrow.Author.Tests.{eqb-true, eqb-false}
use Rattle.model.specs.Track.{Track, zone_of, heading_of, rev, start, leave}
use Rattle.model.specs.Position.{Position, at, carrier_of, is_free, Stands, retire, standing}
use Rattle.model.specs.Accepted.{Laid}
use Rattle.rules.specs.Tries.{Move, Allowed, enters, arrives, Moved, done, forbidden, Moves, unmoved, more}
use Rattle.rules.specs.Key.{named}
use Rattle.model.proofs.WordLaws.{zone_rev, rev_below, zone_below, same_zone}
use Rattle.model.proofs.PositionLaws.{stands_below, laid_stands, laid_retire, at_without_kept}
use Rattle.model.proofs.MoveLaws.{moved_laid}
use Rattle.blocking.proofs.Standings.{standing_zone}
use Rattle.blocking.proofs.HomeSet.{Closed}
use Rattle.blocking.proofs.HomeClass.{class_closed, home_class}
use Rattle.blocking.proofs.NamedOutside.{named_outside}

-- q is laid, and its zones with an end outside are as in p
pub record Kept (t : Track) (p : Position) (H : ℕ → Type 0) (q : Position) : Type 0 where
  pub laid_now : Laid t q
  pub as_first : (w : ℕ) → w < 2 * t.zones → (H (start t w) → ⊥) → at q (zone_of w) ≡ at p (zone_of w)

module _ {t : Track} {p : Position} (laid : Laid t p) {H : ℕ → Type 0} (closed : Closed t p H) (full : (z : ℕ) → z < t.zones → is_free p z ≡ false) where
  module _ {q : Position} (kept : Kept t p H q) where
    -- a free zone has no end outside
    free_inside : (w : ℕ) → w < 2 * t.zones → at q (zone_of w) ≡ 0 → (H (start t w) → ⊥) → ⊥
    free_inside w h e out =
        eqb-false (at p (zone_of w)) 0 (full (zone_of w) (zone_below t.zones w h)) (sym (kept.as_first w h out) ∙ e)

    stood : {c u : ℕ} → Stands q c u → at q (zone_of u) ≡ at p (zone_of u) → Stands p c u
    stood {c} {u} s e =
        record {
          numbered = s.numbered;
          inside = subst (λ (n : ℕ). zone_of u < n) (kept.laid_now.each ∙ sym laid.each) s.inside;
          holds = sym e ∙ s.holds;
        }

    -- what stands in a zone with an end outside leaves outside
    leaves_out : {c u : ℕ} → Stands q c u → (x : ℕ) → x < 2 * t.zones → (H (start t x) → ⊥) → zone_of x ≡ zone_of u → H (leave t u) → ⊥
    leaves_out {c} {u} s x h out z i = by (same_zone x u z)
      where
        first : Stands p c u
        first = stood s (subst (λ (y : ℕ). at q y ≡ at p y) z (kept.as_first x h out))

        by : (x ≡ u) ⊎ (x ≡ rev u) → ⊥
        by (inl e) = out (subst (λ (y : ℕ). H (start t y)) (sym e) (closed.behind c u first i))
        by (inr e) = out (subst (λ (y : ℕ). H (start t y)) (sym e) i)

    -- one that does not leave outside can be taken off
    taken_off : {c u : ℕ} → Stands q c u → ((H (leave t u) → ⊥) → ⊥) → (x : ℕ) → x < 2 * t.zones → (H (start t x) → ⊥) → at (retire c q) (zone_of x) ≡ at p (zone_of x)
    taken_off {c} {u} s inner x h out = by (eqb c (carrier_of (at q (zone_of x)))) refl
      where
        held : (b : Bool) → is_free q (zone_of x) ≡ b → is_free q (zone_of x) ≡ false
        held true e = absurd (free_inside x h (eqb-true (at q (zone_of x)) 0 e) out)
        held false e = e

        mine : eqb c (carrier_of (at q (zone_of x))) ≡ true → ⊥
        mine e =
            let there : Stands q (carrier_of (at q (zone_of x))) (standing q (zone_of x)) = laid_stands t q kept.laid_now (zone_of x) (zone_below t.zones x h) (held (is_free q (zone_of x)) refl) in
            let here : Stands q c (standing q (zone_of x)) = subst (λ (d : ℕ). Stands q d (standing q (zone_of x))) (sym (eqb-true c (carrier_of (at q (zone_of x))) e)) there in
            let same : standing q (zone_of x) ≡ u = kept.laid_now.once c (standing q (zone_of x)) u here s in
            inner (leaves_out s x h out (sym (standing_zone q (zone_of x)) ∙ ap zone_of same))

        by : (b : Bool) → eqb c (carrier_of (at q (zone_of x))) ≡ b → at (retire c q) (zone_of x) ≡ at p (zone_of x)
        by true e = absurd (mine e)
        by false e = at_without_kept (eqb c) q (zone_of x) e ∙ kept.as_first x h out

    kept_allowed : {m : Move} {r : Position} → Allowed t q m r → Kept t p H r
    kept_allowed (enters {c = c} {w = w} u s elsewhere h free touches) =
        record {
          laid_now = moved_laid t q kept.laid_now c u w s h;
          as_first = λ x hx out.
              get_or-set_other (retire c q) (zone_of w) (zone_of x) (2 * c + heading_of w) 0 (λ z. free_inside x hx (ap (at q) z ∙ free) out)
              ∙ taken_off s (λ far. free_inside w h free (λ i. far (subst H touches i))) x hx out;
        }
    kept_allowed (arrives {c = c} u s l) =
        record {
          laid_now = laid_retire t c q kept.laid_now;
          as_first = taken_off s (λ far. far (subst H (sym l) closed.has_home));
        }

    kept_moved : {m : Move} {r : Position} → Moved t q m r → Kept t p H r
    kept_moved (done a) = kept_allowed a
    kept_moved (forbidden n) = kept

  pub kept_moves : {q r : Position} {ms : List Move} → Kept t p H q → Moves t q ms r → Kept t p H r
  kept_moves kept unmoved = kept
  kept_moves kept (more m ms) = kept_moves (kept_moved kept m) ms

  -- so a carrier that leaves outside stands as it did
  pub outside_still : {q : Position} {ms : List Move} → Moves t p ms q → (c w : ℕ) → Stands p c w → (H (leave t w) → ⊥) → Stands q c w
  outside_still {q} moves c w s out =
      record {
        numbered = s.numbered;
        inside = subst (λ (n : ℕ). zone_of w < n) (laid.each ∙ sym kept.laid_now.each) s.inside;
        holds = subst (λ (z : ℕ). at q z ≡ at p z) (zone_rev w) (kept.as_first (rev w) (rev_below t.zones w (stands_below t p laid s)) out) ∙ s.holds;
      }
    where
      kept : Kept t p H q
      kept = kept_moves (record { laid_now = laid; as_first = λ x h o. refl }) moves

-- with every zone held no list of single moves shifts a named carrier
pub full_board_still : {t : Track} {p : Position} → Laid t p → ((z : ℕ) → z < t.zones → is_free p z ≡ false) → {q : Position} {ms : List Move} → Moves t p ms q → (c w : ℕ) → Memᴰ c (named t p) → Stands p c w → Stands q c w
full_board_still laid full moves c w m s = outside_still laid (class_closed laid) full moves c w s (named_outside laid (home_class laid) c w m s)

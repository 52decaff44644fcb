-- The points with home's label at the end of the collapse are home's set: closed, and the least such set.
-- A zone is marked as merged exactly where its carrier leaves at one of them.
use Prim.Native.Nat.{ℕ, ◌*◌, ◌<◌}
use mathlib.Core.Path.{◌≡◌, refl, sym, ◌∙◌, subst}
use mathlib.Core.Logic.{◌↔◌}
use mathlib.Core.Bool.{true, false}
use Rattle.model.specs.Track.{Track, zone_of, rev, start, leave}
use Rattle.model.specs.Position.{Position, is_free, Stands, standing}
use Rattle.model.specs.Labels.{label}
use Rattle.model.specs.Accepted.{Laid}
use Rattle.model.proofs.WordLaws.{zone_below, rev_below}
use Rattle.model.proofs.PositionLaws.{stands_word, stands_below, stands_not_free}
use Rattle.rules.specs.Collapse.{joined, merge_all}
use Rattle.blocking.proofs.HomeSet.{Closed, HomeSet}
use Rattle.blocking.proofs.Joining.{free_joined, turning_joined}
use Rattle.blocking.proofs.Merging.{marked, sound_all, keeps_all, alike_leads}
use Rattle.blocking.proofs.Rounds.{settled_all}

-- a point has home's label at the end
abbrev pub InHome : Track → Position → ℕ → Type 0
InHome t p q = label (merge_all t p).labels q ≡ label (merge_all t p).labels t.home

module _ {t : Track} {p : Position} (laid : Laid t p) where
  -- a held zone is marked exactly where its carrier leaves in home's set
  pub marked_leaves : (z : ℕ) → z < t.zones → is_free p z ≡ false → (marked (merge_all t p) z ≡ true) ↔ InHome t p (leave t (standing p z))
  marked_leaves z h f = ((sound_all laid).leaves_home z h, λ i. settled_all laid z h (alike_leads laid (merge_all t p) z f i))

  -- points alike after joining are alike at the end
  at_end : (w : ℕ) → w < 2 * t.zones → label (joined t p) (start t w) ≡ label (joined t p) (leave t w) → InHome t p (start t w) → InHome t p (leave t w)
  at_end w h e i = sym ((sound_all laid).further.coarser (start t w) (leave t w) (laid.inside w h) (laid.inside (rev w) (rev_below t.zones w h)) e) ∙ i

  merged_behind : (c w : ℕ) → Stands p c w → InHome t p (leave t w) → InHome t p (start t w)
  merged_behind c w s i =
      subst (λ (v : ℕ). InHome t p (start t v)) (stands_word s)
      ((sound_all laid).starts_home (zone_of w) in_zones
      ((marked_leaves (zone_of w) in_zones (stands_not_free s)).1 (subst (λ (v : ℕ). InHome t p (leave t v)) (sym (stands_word s)) i)))
    where
      in_zones : zone_of w < t.zones
      in_zones = zone_below t.zones w (stands_below t p laid s)

  pub class_closed : Closed t p (InHome t p)
  class_closed =
      record {
        has_home = refl;
        over_free = λ w h f. at_end w h (free_joined laid w h f);
        over_turning = λ w h e. at_end w h (turning_joined laid w h e);
        behind = merged_behind;
      }

  pub home_class : HomeSet t p (InHome t p)
  home_class =
      record {
        closed = class_closed;
        least = λ S closed q h i. keeps_all laid S closed t.home q laid.home_in h (sym i) closed.has_home;
      }

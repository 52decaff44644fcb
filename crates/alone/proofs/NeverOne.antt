-- Request g of document 02: a carrier that is alone out can go, so never is exactly one blocked, and where some is, two or more are.
-- If one were, it would be alone out where the key ends, and none can go there.
use Prim.Native.Nat.{ℕ, ◌<◌}
use mathlib.Core.List.Memᴰ
use mathlib.Core.List.{List, [], ◌∷◌}
use mathlib.Core.Path.{◌≡◌, refl, sym, ◌∙◌, subst}
use native.Mathlib.Omega.{arith}
use Rattle.model.specs.Lists.{Ascending}
use Rattle.model.specs.Track.{Track}
use Rattle.model.specs.Position.{Position}
use Rattle.model.specs.Accepted.{AcceptedTrack, Laid}
use Rattle.rules.specs.Routes.{Blocked}
use Rattle.rules.specs.Key.{run, named}
use Rattle.order.proofs.KeyRun.{run_laid, run_ends}
use Rattle.order.proofs.Named.{named_left, named_ascending, named_blocked, blocked_named}
use Rattle.alone.specs.HowManyBlocked.{OneBlocked, TwoBlocked}
use Rattle.alone.specs.NeverOne.{TwoZones, AloneOut, AloneGoes, NeverOne, SomeIsTwo}
use Rattle.alone.proofs.GoesAlone.{goes_by_two_zones}

-- the track of an accepted board keeps the two-zone rule
two_zones_kept : {t : Track} → AcceptedTrack t → TwoZones t
two_zones_kept a q h n = omega (arith, a.two_zones q h n)

pub alone_goes : AloneGoes
alone_goes t a p laid c ((w, s), others-gone) = goes_by_two_zones laid s others-gone (two_zones_kept a) a.ends_count a.hangs

-- the one blocked carrier is alone out where the key ends
alone_at_end : {t : Track} {p : Position} → Laid t p → (o : OneBlocked t p) → AloneOut (run t p).last o.carrier
alone_at_end {t} {p} laid o = ((named_left t p).0 (blocked_named t p laid o.blocked), λ d out. o.no_other d (named_blocked t p laid ((named_left t p).1 out)))

pub never_one : NeverOne
never_one t a p laid o = run_ends t p laid o.carrier (alone_goes t a (run t p).last (run_laid t p laid) o.carrier (alone_at_end laid o))

-- two blocked carriers are more than one, in any position
pub two_not_one : {t : Track} {p : Position} → TwoBlocked t p → OneBlocked t p → ⊥
two_not_one w o = w.differ (o.no_other w.one w.one_blocked ∙ sym (o.no_other w.other w.other_blocked))

pub some_is_two : SomeIsTwo
some_is_two t a p laid = (λ some. two some.1 (named t p) refl, λ w. (w.one, w.one_blocked))
  where
    single : (d : ℕ) → named t p ≡ d ∷ [] → OneBlocked t p
    single d e = record { carrier = d; blocked = named_blocked t p laid (rw e (Memᴰ.head refl)); no_other = λ x y. Memᴰ.eq_of_singleton (rw e at (blocked_named t p laid y)) }

    two : {c : ℕ} → Blocked t p c → (l : List ℕ) → named t p ≡ l → TwoBlocked t p
    two b [] e = absurd (Memᴰ.not-nil (rw e at (blocked_named t p laid b)))
    two b (d ∷ []) e = absurd (never_one t a p laid (single d e))
    two b (d ∷ f ∷ l) e =
        let lower : d < f = (subst Ascending e (named_ascending t p laid)).0 f (Memᴰ.head refl) in
        record {
          one = d;
          other = f;
          differ = λ x. omega arith;
          one_blocked = named_blocked t p laid (rw e (Memᴰ.head refl));
          other_blocked = named_blocked t p laid (rw e (Memᴰ.tail (Memᴰ.head refl)));
        }

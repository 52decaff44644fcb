-- The key's named carriers: they stay out however tried, none else is left, and they are the blocked ones.
-- All from the key's last position, in which none can go, and which stays within every position that tries lead to.
use Prim.Native.Nat.{ℕ}
use mathlib.Core.Path.{◌≡◌, refl, sym, ◌∙◌}
use mathlib.Core.List.Memᴰ
use mathlib.Core.List.{List, [], ◌∷◌, Memᴰ}
use mathlib.Core.Logic.{◌⊎◌, inl, inr, ◌↔◌}
use lib.Seq.{ext_get_or}
use Rattle.model.specs.Lists.{Ascending}
use Rattle.model.specs.Track.{Track}
use Rattle.model.specs.Position.{Position, at, Stands, Out}
use Rattle.model.specs.Accepted.{Laid}
use Rattle.model.proofs.PositionLaws.{mem_outs, outs_mem, outs_ascending}
use Rattle.rules.specs.Routes.{Ordered, Blocked, leaving}
use Rattle.rules.specs.Tries.{Tries, NoneCanGo}
use Rattle.rules.specs.Key.{run, named, named_by}
use Rattle.order.proofs.Within.{Within, stands_before, laid_within, once_within}
use Rattle.order.proofs.LastPosition.{within_tries, within_retires, tries_of_retires, stays_tries, within_last}
use Rattle.order.proofs.KeyRun.{run_retires, run_ends}
use Rattle.order.proofs.Retired.{leaves_or_out, left_not_leaving}

-- two positions each within the other are one
within_both : {q p : Position} → Within q p → Within p q → q ≡ p
within_both {q} {p} a b = ext_get_or 0 q p a.as_long (λ z _. go z (a.kept z) (b.kept z))
  where
    go : (z : ℕ) → (at q z ≡ at p z) ⊎ (at q z ≡ 0) → (at p z ≡ at q z) ⊎ (at p z ≡ 0) → at q z ≡ at p z
    go z (inl e) y = e
    go z (inr e) (inl f) = sym f
    go z (inr e) (inr f) = e ∙ sym f

pub no_members : (l : List ℕ) → ((c : ℕ) → Memᴰ c l → ⊥) → l ≡ []
no_members [] h = refl
no_members (c ∷ l) h = absurd (h c (Memᴰ.head refl))

-- tries and retirements keep a laid position laid, and whoever is out stands where it stood
pub tries_laid : {t : Track} {p q : Position} {cs : List ℕ} → Tries t p cs q → Laid t p → Laid t q
tries_laid ts laid = laid_within (within_tries ts) laid

pub tries_stood : {t : Track} {p q : Position} {cs : List ℕ} {c w : ℕ} → Tries t p cs q → Stands q c w → Stands p c w
tries_stood ts s = stands_before (within_tries ts) s

pub named_left : (t : Track) (p : Position) {c : ℕ} → Memᴰ c (named t p) ↔ Out (run t p).last c
unfolding named_by
named_left t p = (λ m. mem_outs (run t p).last m, λ o. outs_mem (run t p).last o)

module _ (t : Track) (p : Position) (laid : Laid t p) where
  -- the key's last position is within the first
  pub last_within : Within (run t p).last p
  last_within = within_retires (run_retires t p laid)

  pub named_ascending : Ascending (named t p)
  unfolding named_by
  named_ascending = outs_ascending (run t p).last (once_within last_within laid.once)

  pub named_out : {c : ℕ} → Memᴰ c (named t p) → Out p c
  named_out m = let o = (named_left t p).0 m in (o.0, stands_before last_within o.1)

  module _ {cs : List ℕ} {q : Position} (ts : Tries t p cs q) where
    -- and within every position that tries lead to
    pub last_stays : Within (run t p).last q
    last_stays = stays_tries (run_ends t p laid) laid.once last_within ts

    -- however tried, each named carrier is out
    pub named_stays : {c : ℕ} → Memᴰ c (named t p) → Out q c
    named_stays m = let o = (named_left t p).0 m in (o.0, stands_before last_stays o.1)

    -- and stands where it stood at first
    pub named_stands : {c w : ℕ} → Memᴰ c (named t p) → Stands p c w ↔ Stands q c w
    named_stands {c} {w} m = (λ s. rw (laid.once c _ w (tries_stood ts (named_stays m).1) s) at (named_stays m).1, λ s. tries_stood ts s)

    -- a position that tries lead to, in which none can go, is within the key's last one
    end_within : NoneCanGo t q → Within q (run t p).last
    end_within ended = within_last ended laid.once (within_tries ts) (run_retires t p laid)

    -- where none can go, only named carriers are out
    pub left_named : NoneCanGo t q → {c : ℕ} → Out q c → Memᴰ c (named t p)
    left_named ended (w, s) = (named_left t p).1 (w, stands_before (end_within ended) s)

    -- so all ways of trying end in one position, the key's
    pub one_end : NoneCanGo t q → q ≡ (run t p).last
    one_end ended = within_both (end_within ended) last_stays

  -- the named carriers are the blocked ones
  pub named_blocked : {c : ℕ} → Memᴰ c (named t p) → Blocked t p c
  named_blocked m = (named_out m, λ es q rs k. left_not_leaving (run_ends t p laid) laid.once last_within ((named_left t p).0 m) rs k)

  pub blocked_named : {c : ℕ} → Blocked t p c → Memᴰ c (named t p)
  blocked_named {c} (o, never) = go (leaves_or_out (run_retires t p laid) o)
    where
      go : Memᴰ c (leaving (run t p).plan) ⊎ Out (run t p).last c → Memᴰ c (named t p)
      go (inl m) = absurd (never _ _ (run_retires t p laid) m)
      go (inr o) = (named_left t p).1 o

  pub named_iff_blocked : (c : ℕ) → Memᴰ c (named t p) ↔ Blocked t p c
  named_iff_blocked c = (named_blocked, blocked_named)

  -- the board is ordered exactly where none is named
  pub unnamed_ordered : named t p ≡ [] → Ordered t p
  unnamed_ordered e = ((run t p).plan, (run t p).last, run_retires t p laid, λ c o. Memᴰ.not-nil (rw e at ((named_left t p).1 o)))

  pub ordered_unnamed : Ordered t p → named t p ≡ []
  ordered_unnamed (es, q, rs, empty) = no_members (named t p) (λ c m. empty c (named_stays (tries_of_retires rs) m))

  pub unnamed_iff_ordered : (named t p ≡ []) ↔ Ordered t p
  unnamed_iff_ordered = (unnamed_ordered, ordered_unnamed)

-- The collapse leaves the carriers that the key names, number for number.
-- Both lists are ascending and have the same members: the carriers that leave at a point outside home's set.
use Prim.Native.Nat.{ℕ}
use mathlib.Core.List.{Memᴰ}
use mathlib.Core.Path.{◌≡◌}
use Rattle.model.specs.Track.{Track, leave}
use Rattle.model.specs.Position.{Position, Stands, Out}
use Rattle.model.specs.Accepted.{Laid}
use Rattle.model.proofs.AscendingLaws.{ascending_unique}
use Rattle.rules.specs.Key.{named}
use Rattle.rules.specs.Collapse.{left}
use Rattle.order.proofs.Named.{named_ascending, named_out}
use Rattle.blocking.specs.FreeParts.{CollapseSame}
use Rattle.blocking.proofs.HomeClass.{InHome, home_class, class_closed}
use Rattle.blocking.proofs.LeftMembers.{mem_left, left_mem, left_ascending}
use Rattle.blocking.proofs.NamedOutside.{outside_named, named_outside}

module _ {t : Track} {p : Position} (laid : Laid t p) where
  left_named : (c : ℕ) → Memᴰ c (left t p) → Memᴰ c (named t p)
  left_named c m =
      let r : (w : ℕ) × Stands p c w × (InHome t p (leave t w) → ⊥) = mem_left laid c m in
      outside_named laid (class_closed laid) c r.0 r.1 r.2

  named_left : (c : ℕ) → Memᴰ c (named t p) → Memᴰ c (left t p)
  named_left c m =
      let out : Out p c = named_out t p laid m in
      left_mem laid c out.0 out.1 (named_outside laid (home_class laid) c out.0 m out.1)

  pub collapse_same : left t p ≡ named t p
  collapse_same = ascending_unique (left t p) (named t p) (left_ascending laid) (named_ascending t p laid) left_named named_left

-- of every position laid on a track, as it is promised
pub each_collapse_same : CollapseSame
each_collapse_same t p laid = collapse_same laid

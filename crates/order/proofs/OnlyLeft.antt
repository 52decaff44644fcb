-- A position within a laid one is that one with only its own carriers left: each zone holds what it held, or its carrier is gone.
-- Zone by zone: a carrier that is still out stands where it stood, and one whose zone is free is out no more, since it stood in no other.
use Prim.Native.Nat.{ℕ, ◌+◌, ◌*◌, ◌<◌}
use mathlib.Core.Path.{◌≡◌, refl, sym, ap, ◌∙◌}
use mathlib.Core.Bool.{Bool, true, false, not}
use mathlib.Core.Logic.{◌⊎◌, inl, inr}
use native.Mathlib.Omega.{arith}
use lib.ListN.{length}
use lib.Seq.{ext_get_or}
use lib.Dec.{eqb}
use borrow.Author.Tests.{eqb-true, eqb-false}
use Rattle.model.specs.Lists.{any_of}
use Rattle.model.specs.Track.{Track, heading_of}
use Rattle.model.specs.Position.{Position, at, carrier_of, Stands, Out, only_left, outs}
use Rattle.model.specs.Accepted.{Laid}
use Rattle.model.proofs.BoolLaws.{decided}
use Rattle.model.proofs.ListLaws.{any_mem, mem_any}
use Rattle.model.proofs.PositionLaws.{length_without, at_without_gone, at_without_kept, free_without, held_stands, laid_numbered, mem_outs, outs_mem}
use Rattle.order.proofs.Within.{Within, stands_before}

module _ {t : Track} {q p : Position} (a : Within q p) (laid : Laid t p) where
  abbrev gone : ℕ → Bool
  gone c = not (any_of (eqb c) (outs q))

  -- whoever is listed as out is out
  listed_out : (c : ℕ) → any_of (eqb c) (outs q) ≡ true → Out q c
  listed_out c e = mem_outs q (any_mem c (outs q) e)

  pub within_only : q ≡ only_left (outs q) p
  within_only = ext_get_or 0 q (only_left (outs q) p) (a.as_long ∙ sym (length_without gone p)) (λ z h. zone z (rw a.as_long at h) (decided (eqb (at p z) 0)) (a.kept z))
    where
      zone : (z : ℕ) → z < length p → (eqb (at p z) 0 ≡ true) ⊎ (eqb (at p z) 0 ≡ false) → (at q z ≡ at p z) ⊎ (at q z ≡ 0) → at q z ≡ at (only_left (outs q) p) z
      zone z h (inl f) k =
          let free : at p z ≡ 0 = eqb-true (at p z) 0 f in
          empty k ∙ sym (free_without gone p z free)
        where
          empty : (at q z ≡ at p z) ⊎ (at q z ≡ 0) → at q z ≡ 0
          empty (inl e) = e ∙ eqb-true (at p z) 0 f
          empty (inr e) = e
      zone z h (inr f) (inl e) = e ∙ sym (at_without_kept gone p z (ap not (mem_any (outs_mem q (2 * z + heading_of (at q z), out)))))
        where
          c : ℕ
          c = carrier_of (at p z)

          same : carrier_of (at q z) ≡ c
          same = ap carrier_of e

          out : Stands q c (2 * z + heading_of (at q z))
          out = rw same at (held_stands q z (rw (sym a.as_long) at h) (λ n. laid_numbered t p laid z (eqb-false (at p z) 0 f) (sym same ∙ n)))
      zone z h (inr f) (inr e) = e ∙ sym (at_without_gone gone p z (ap not (absent (any_of (eqb c) (outs q)) refl)))
        where
          c : ℕ
          c = carrier_of (at p z)

          stood : Stands p c (2 * z + heading_of (at p z))
          stood = held_stands p z h (laid_numbered t p laid z (eqb-false (at p z) 0 f))

          absent : (b : Bool) → any_of (eqb c) (outs q) ≡ b → any_of (eqb c) (outs q) ≡ false
          absent false d = d
          absent true d =
              let out = listed_out c d in
              let w : out.0 ≡ 2 * z + heading_of (at p z) = laid.once c out.0 (2 * z + heading_of (at p z)) (stands_before a out.1) stood in
              absurd (held out.0 w out.1)
            where
              held : (w : ℕ) → w ≡ 2 * z + heading_of (at p z) → Stands q c w → ⊥
              held w d s =
                  let here : at q z ≡ 2 * c + heading_of w = ap (at q) (omega arith) ∙ s.holds in
                  s.numbered (omega arith)

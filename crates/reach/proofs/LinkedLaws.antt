-- What is reached over the ways of a track's words is what is linked over the zones that pass the same test.
-- One way is one zone gone over, and the other way round.
use Prim.Native.Nat.{ℕ, ◌*◌}
use mathlib.Core.Path.{◌≡◌, sym, ◌∙◌, subst₂}
use mathlib.Core.List.{List}
use mathlib.Core.Bool.{Bool, true}
use Rattle.model.specs.Track.{Track, Linked, zone_of, start, leave}
use Rattle.model.specs.Track.Linked.{here}
use Rattle.model.proofs.LinkLaws.{linked_trans, linked_word, linked_keeps}
use Rattle.reach.specs.Ways.{Reach, WaysOver}
use Rattle.reach.specs.Ways.Reach.{here as stays, on}

module _ (t : Track) (pass : ℕ → Bool) {goes : ℕ → Bool} {ways : List ℕ} (o : WaysOver (start t) (leave t) goes (2 * t.zones) ways) (same : (w : ℕ) → goes w ≡ pass (zone_of w)) where
  pub reach_linked : {a b : ℕ} → Reach ways a b → Linked t (λ z. pass z ≡ true) a b
  reach_linked stays = here
  reach_linked (on {q = q} {r = r} k e) =
      let w = o.sound q r e in
      linked_trans t (reach_linked k) (subst₂ (Linked t (λ z. pass z ≡ true)) w.3 w.4 (linked_word t w.0 w.1 (sym (same w.0) ∙ w.2)))

  pub linked_reach : {a b : ℕ} → Linked t (λ z. pass z ≡ true) a b → Reach ways a b
  linked_reach {a} l = linked_keeps t (Reach ways a) (λ w h e r. on r (o.whole w h (same w ∙ e))) l stays

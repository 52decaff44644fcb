-- The search count is at most Z × C × (C + 1).
-- A try reaches at most 2 × Z words; a round over C carriers has at most C tries and leaves C - 1 out, or is the last.
use Prim.Native.Nat.{ℕ, zero, suc, ◌+◌, ◌*◌, ◌≤◌}
use mathlib.Core.Path.{◌≡◌, refl, sym, ◌∙◌, ap}
use mathlib.Core.List.{List, [], ◌∷◌, ◌++◌, Memᴰ}
use mathlib.Core.Option.{Option, none, some}
use native.Mathlib.Omega.{arith}
use native.Mathlib.Nat.{suc-mul, mul-suc, mul_comm, mul_assoc, add-mul}
use native.Mathlib.Numerals.{add-one}
use lib.ListN.{length}
use Rattle.model.specs.Track.{Track}
use Rattle.model.specs.Position.{Position, Out, retire, outs}
use Rattle.model.specs.Accepted.{Laid}
use Rattle.model.proofs.PositionLaws.{mem_outs, outs_ascending, outs_retire_length, laid_retire}
use Rattle.rules.specs.Routes.{Entry}
use Rattle.rules.specs.Key.{least_route, first_to_go}
use Rattle.rules.specs.SearchCount.{unless_goes, if_one_goes, sum_of_lengths, reached, tried, tried_by, tries_for, tries_for_by, tries_by, searched_by, searched}
use Rattle.order.proofs.FirstToGo.{first_to_go_lem}
use Rattle.searchcount.specs.Rounds.{most_searched}
use Rattle.searchcount.proofs.Reaching.{reached_most}

pub sum_append : (wss vss : List (List ℕ)) → sum_of_lengths (wss ++ vss) ≡ sum_of_lengths wss + sum_of_lengths vss
sum_append [] vss = omega arith
sum_append (ws ∷ wss) vss = omega (arith, sum_append wss vss)

-- a round over one carrier more adds twice Z for each
one_more_lem : (z k : ℕ) → z * suc k * (suc k + 1) ≡ z * k * (k + 1) + suc k * (2 * z)
one_more_lem z k = ap (λ (n : ℕ). z * suc k * n) (add-one (suc k)) ∙ in_full ∙ sym (ap (λ (n : ℕ). z * k * n + suc k * (2 * z)) (add-one k))
  where
    product : z * suc k * k ≡ z * k * k + z * k
    product = ap (λ (n : ℕ). n * k) (mul-suc z k) ∙ add-mul (z * k) z k

    twice : k * (2 * z) ≡ 2 * (z * k)
    twice = mul_comm k (2 * z) ∙ mul_assoc 2 z k

    in_full : z * suc k * suc (suc k) ≡ z * k * suc k + suc k * (2 * z)
    in_full = omega (arith, mul-suc (z * suc k) (suc k), mul-suc (z * suc k) k, mul-suc z k, product, mul-suc (z * k) k, suc-mul k (2 * z), twice)

module _ (t : Track) where
  pub tried_most : (p : Position) → Laid t p → (cs : List ℕ) → ((c : ℕ) → Memᴰ c cs → Out p c) → sum_of_lengths (tried t p cs) ≤ length cs * (2 * t.zones)
  unfolding tried_by
  tried_most p laid [] out = omega arith
  tried_most p laid (c ∷ cs) out = go (least_route t p c) (tried_most p laid cs (λ d m. out d (Memᴰ.tail m)))
    where
      go : (o : Option (List ℕ)) → sum_of_lengths (tried t p cs) ≤ length cs * (2 * t.zones)
          → length (reached t p c) + sum_of_lengths (unless_goes o (tried t p cs)) ≤ suc (length cs) * (2 * t.zones)
      go (some r) h = omega (arith, reached_most t p laid (out c (Memᴰ.head refl)), suc-mul (length cs) (2 * t.zones))
      go none h = omega (arith, reached_most t p laid (out c (Memᴰ.head refl)), suc-mul (length cs) (2 * t.zones))

  tries_most : (n : ℕ) (p : Position) → Laid t p → sum_of_lengths (tries_for n t p) ≤ most_searched t p
  unfolding tries_for_by
  tries_most zero p laid = omega arith
  tries_most (suc n) p laid = go (first_to_go t p (outs p)) refl (tried_most p laid (outs p) (λ c m. mem_outs p m)) (tries_most n)
    where
      round_most : (k : ℕ) → k * (2 * t.zones) ≤ t.zones * k * (k + 1)
      round_most zero = omega arith
      round_most (suc k) = omega (arith, one_more_lem t.zones k)

      sum_most : (k m : ℕ) {a b : ℕ} → k + 1 ≡ m → a ≤ m * (2 * t.zones) → b ≤ t.zones * k * (k + 1) → a + b ≤ t.zones * m * (m + 1)
      sum_most k m e f g =
          let more : m ≡ suc k = omega arith in
          let full : t.zones * m * (m + 1) ≡ t.zones * k * (k + 1) + m * (2 * t.zones) = rw more (one_more_lem t.zones k) in
          omega arith

      go : (o : Option Entry) → first_to_go t p (outs p) ≡ o → sum_of_lengths (tried t p (outs p)) ≤ length (outs p) * (2 * t.zones)
          → ((q : Position) → Laid t q → sum_of_lengths (tries_for n t q) ≤ most_searched t q)
          → sum_of_lengths (tried t p (outs p) ++ if_one_goes o (λ e. tries_for n t (retire e.carrier p))) ≤ most_searched t p
      go none f h ih = rw (sum_append (tried t p (outs p)) []) (omega (arith, round_most (length (outs p))))
      go (some e) f h ih =
          let a = first_to_go_lem t p (outs p) (outs_ascending p laid.once) f in
          let fewer : length (outs (retire e.carrier p)) + 1 ≡ length (outs p) = outs_retire_length e.carrier p laid.once (mem_outs p a.among) in
          let rest = ih (retire e.carrier p) (laid_retire t e.carrier p laid) in
          rw (sum_append (tried t p (outs p)) (tries_for n t (retire e.carrier p))) (sum_most (length (outs (retire e.carrier p))) (length (outs p)) fewer h rest)

  pub searched_most : (p : Position) → Laid t p → searched t p ≤ most_searched t p
  unfolding searched_by tries_by
  searched_most p laid = tries_most (length (outs p)) p laid

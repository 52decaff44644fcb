-- The relation leaves no choice: one list of tries has the words reached in the key's rounds, so only one number is the search count.
-- An ascending list is known by its members, and whether a carrier can go ends a round or goes on.
use Prim.Native.Nat.{ℕ}
use mathlib.Core.Path.{◌≡◌, refl, sym, ap, ap₂, ◌∙◌, subst}
use mathlib.Core.List.{List, [], ◌∷◌, ◌++◌}
use mathlib.Core.Option.{Option}
use native.Mathlib.Omega.{arith}
use Rattle.model.specs.Track.{Track}
use Rattle.model.specs.Position.{Position, retire}
use Rattle.model.proofs.AscendingLaws.{ascending_unique}
use Rattle.rules.specs.SearchCount.{sum_of_lengths}
use Rattle.searchcount.specs.Rounds.{Reached, Round, all_tried, goes, stays, LowestOut, Rounds, last, next, Counted}

reached_one : {t : Track} {p : Position} {c : ℕ} {ws vs : List ℕ} → Reached t p c ws → Reached t p c vs → ws ≡ vs
reached_one {ws = ws} {vs} a b = ascending_unique ws vs a.once b.once (λ x m. (b.exactly x).1 ((a.exactly x).0 m)) (λ x m. (a.exactly x).1 ((b.exactly x).0 m))

lowest_one : {p : Position} {cs ds : List ℕ} → LowestOut p cs → LowestOut p ds → cs ≡ ds
lowest_one {cs = cs} {ds} a b = ascending_unique cs ds a.ascending b.ascending (λ c m. (b.out c).1 ((a.out c).0 m)) (λ c m. (a.out c).1 ((b.out c).0 m))

module _ {t : Track} where
  round_one : {p : Position} {cs : List ℕ} {wss vss : List (List ℕ)} {o r : Option ℕ} → Round t p cs wss o → Round t p cs vss r → (wss ≡ vss) × (o ≡ r)
  round_one all_tried all_tried = (refl, refl)
  round_one (goes a g) (goes b h) = (ap (λ (l : List ℕ). l ∷ []) (reached_one a b), refl)
  round_one (goes a g) (stays b n y) = absurd (n g)
  round_one (stays a n x) (goes b h) = absurd (n h)
  round_one (stays a n x) (stays b m y) = let rest = round_one x y in (ap₂ (λ (l : List ℕ) (k : List (List ℕ)). l ∷ k) (reached_one a b) rest.0, rest.1)

  -- rounds of one position, over the carriers out
  same_round : {p : Position} {cs ds : List ℕ} {wss vss : List (List ℕ)} {o r : Option ℕ} → LowestOut p cs → LowestOut p ds
      → Round t p cs wss o → Round t p ds vss r → (wss ≡ vss) × (o ≡ r)
  same_round {p} {vss = vss} {r = r} a b x y = round_one x (subst (λ (l : List ℕ). Round t p l vss r) (sym (lowest_one a b)) y)

  rounds_one : {p : Position} {wss vss : List (List ℕ)} → Rounds t p wss → Rounds t p vss → wss ≡ vss
  rounds_one (last a x) (last b y) = (same_round a b x y).0
  rounds_one (last a x) (next b y rest) = let e = (same_round a b x y).1 in absurd (let z : ◌≡◌ {A = ℕ} 0 1 = cc in omega arith)
  rounds_one (next a x rest) (last b y) = let e = (same_round a b x y).1 in absurd (let z : ◌≡◌ {A = ℕ} 0 1 = cc in omega arith)
  rounds_one {p} (next {c = c} {vss = ws} a x rest) (next {c = d} {vss = vs} b y rest') =
      let same = same_round a b x y in
      let goer : c ≡ d = cc same.1 in
      ap₂ (λ (l k : List (List ℕ)). l ++ k) same.0 (rounds_one rest (subst (λ (e : ℕ). Rounds t (retire e p) vs) (sym goer) rest'))

  pub counted_once : {p : Position} {m n : ℕ} → Counted t p m → Counted t p n → m ≡ n
  counted_once a b = a.summed ∙ ap sum_of_lengths (rounds_one a.rounds b.rounds) ∙ sym b.summed

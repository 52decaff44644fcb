-- The first of a list of carriers that can go, with its least route; of an ascending list, the lowest-numbered.
-- By induction over the list.
use Prim.Native.Nat.{ℕ, ◌<◌}
use mathlib.Core.Path.{◌≡◌, refl, sym, ap, ◌∙◌}
use mathlib.Core.List.Memᴰ
use mathlib.Core.List.{List, [], ◌∷◌, Memᴰ}
use mathlib.Core.Logic.{◌⊎◌, inl, inr}
use mathlib.Core.Option.{Option, none, some}
use native.Mathlib.Omega.{arith}
use Rattle.model.specs.Lists.{Ascending}
use Rattle.model.specs.Track.{Track}
use Rattle.model.specs.Position.{Position}
use Rattle.rules.specs.Routes.{Entry}
use Rattle.rules.specs.Key.{least_route, goes_else, first_to_go, first_to_go_by}

-- what the first that can go is
pub record First (t : Track) (p : Position) (cs : List ℕ) (e : Entry) : Type 0 where
  pub among : Memᴰ e.carrier cs
  pub goes : least_route t p e.carrier ≡ some e.words
  pub lower : (d : ℕ) → Memᴰ d cs → d < e.carrier → least_route t p d ≡ none

module _ (t : Track) (p : Position) where
  pub first_to_go_lem : (cs : List ℕ) {e : Entry} → Ascending cs → first_to_go t p cs ≡ some e → First t p cs e
  unfolding first_to_go_by
  first_to_go_lem [] asc f = absurd (let z : ◌≡◌ {A = ℕ} 0 1 = cc in omega arith)
  first_to_go_lem (c ∷ cs) {e} asc f = go (least_route t p c) refl f (first_to_go_lem cs asc.1)
    where
      head : (d : ℕ) → (d ≡ c) ⊎ Memᴰ d cs → d < c → least_route t p d ≡ none
      head d (inl q) l = absurd (omega arith)
      head d (inr m) l = let k : c < d = asc.0 d m in absurd (omega arith)

      tail : First t p cs e → least_route t p c ≡ none → (d : ℕ) → (d ≡ c) ⊎ Memᴰ d cs → d < e.carrier → least_route t p d ≡ none
      tail r n d (inl q) l = ap (least_route t p) q ∙ n
      tail r n d (inr m) l = r.lower d m l

      go : (o : Option (List ℕ)) → least_route t p c ≡ o → goes_else c o (first_to_go t p cs) ≡ some e → (first_to_go t p cs ≡ some e → First t p cs e) → First t p (c ∷ cs) e
      go (some r) q f ih =
          let a : e.carrier ≡ c = cc in
          let b : e.words ≡ r = cc in
          record { among = Memᴰ.head a; goes = ap (least_route t p) a ∙ q ∙ ap {B = Option (List ℕ)} some (sym b); lower = λ d m l. head d (Memᴰ.cases_cons m) (rw a at l) }
      go none q f ih =
          let r : First t p cs e = ih f in
          record { among = Memᴰ.tail r.among; goes = r.goes; lower = λ d m l. tail r q d (Memᴰ.cases_cons m) l }

  pub none_to_go : (cs : List ℕ) → first_to_go t p cs ≡ none → (d : ℕ) → Memᴰ d cs → least_route t p d ≡ none
  unfolding first_to_go_by
  none_to_go [] f d m = absurd (Memᴰ.not-nil m)
  none_to_go (c ∷ cs) f d m = go (least_route t p c) refl f (λ f m. none_to_go cs f d m)
    where
      go : (o : Option (List ℕ)) → least_route t p c ≡ o → goes_else c o (first_to_go t p cs) ≡ none → (first_to_go t p cs ≡ none → Memᴰ d cs → least_route t p d ≡ none) → least_route t p d ≡ none
      go (some r) q f ih = absurd (let z : ◌≡◌ {A = ℕ} 0 1 = cc in omega arith)
      go none q f ih = inside (Memᴰ.cases_cons m)
        where
          inside : (d ≡ c) ⊎ Memᴰ d cs → least_route t p d ≡ none
          inside (inl e) = ap (least_route t p) e ∙ q
          inside (inr m) = ih f m

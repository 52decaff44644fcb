-- As many rounds of merging as carriers are enough: a round that marks no new zone changes nothing, and every other marks one more of the held zones.
-- So at the end each zone that leads home is marked.
use Prim.Native.Nat.{ℕ, zero, suc, ◌+◌, ◌≤◌, ◌<◌}
use mathlib.Core.List.{List, [], ◌∷◌, map, map-id, Memᴰ, foldl}
use mathlib.Core.Path.{◌≡◌, refl, sym, ◌∙◌, ap, subst}
use mathlib.Core.Logic.{◌⊎◌, inl, inr}
use mathlib.Core.Bool.{Bool, true, false, not, cond, ◌&&◌}
use native.Mathlib.Omega.{arith}
use lib.ListN.{length, set}
use lib.Seq.{set-get_or}
use lib.Dec.{eqb}
use borrow.Author.Tests.{eqb-true, eqb-false, ne_eqb, not-true}
use Rattle.model.specs.Lists.{numbers_below, keep, any_of, how_many, n_times}
use Rattle.model.specs.Track.{Track, start, leave}
use Rattle.model.specs.Position.{Position, at, carrier_of, is_free, outs, standing}
use Rattle.model.specs.Labels.{label, join_points}
use Rattle.model.specs.Accepted.{Laid}
use Rattle.model.proofs.BoolLaws.{both_ways, not_true_false, decided, and_left, and_right, and_both}
use Rattle.model.proofs.ListLaws.{mem_below, below_mem, any_below, any_below_false, how_many_mono, how_many_less, foldl_keeps, n_times_keeps}
use Rattle.model.proofs.AscendingLaws.{length_ascending}
use Rattle.model.proofs.PlaceLaws.{map_ext, how_many_map, how_many_places}
use Rattle.model.proofs.PositionLaws.{laid_numbered}
use Rattle.rules.specs.Collapse.{Merging, leads_home, merge_if, merge_zone, merge_all}
use Rattle.blocking.proofs.Merging.{marked, MergedFurther, further_same, further_more, Sound, before, sound_before, after, after_marked, merge_cases, leads_held, leads_alike, alike_leads, leaves_in, round, sound_merge, sound_round, further_merge}

-- every zone that leads home is marked
abbrev pub Settled : Track → Position → Merging → Type 0
Settled t p m = (z : ℕ) → z < t.zones → leads_home t p m.labels z ≡ true → marked m z ≡ true

-- joining two points with one label changes nothing
join_alike : (ls : List ℕ) (a b : ℕ) → label ls a ≡ label ls b → join_points ls a b ≡ ls
unfolding join_points
join_alike ls a b e = map_ext (λ l. cond (eqb l (label ls a)) (label ls b) l) (λ l. l) ls (λ l i. by l (eqb l (label ls a)) refl) ∙ map-id ls
  where
    by : (l : ℕ) (c : Bool) → eqb l (label ls a) ≡ c → cond c (label ls b) l ≡ l
    by l true q = sym (eqb-true l (label ls a) q ∙ e)
    by l false q = refl

-- held, and not marked
abbrev waits : Track → Position → Merging → ℕ → Bool
waits t p m z = not (is_free p z) && not (marked m z)

abbrev waiting : Track → Position → Merging → ℕ
waiting t p m = how_many (waits t p m) (numbers_below t.zones)

and_second : (a b : Bool) → b ≡ false → (a && b) ≡ false
and_second true b q = q
and_second false b q = refl

module _ {t : Track} {p : Position} (laid : Laid t p) where
  -- where all that leads home is marked, merging changes nothing
  settled_merge : (m : Merging) → Sound t p m → Settled t p m → (z : ℕ) → z < t.zones → merge_zone t p m z ≡ m
  settled_merge m s settled z h = merge_cases t p (λ n. n ≡ m) m z refl same
    where
      same : leads_home t p m.labels z ≡ true → after t p m z ≡ m
      same leads =
          let e : join_points m.labels (start t (standing p z)) t.home ≡ m.labels = join_alike m.labels (start t (standing p z)) t.home (s.starts_home z h (settled z h leads)) in
          let f : set m.merged z true ≡ m.merged = ap (set m.merged z) (sym (settled z h leads)) ∙ set-get_or m.merged z false in
          λ i. record { labels = e i; merged = f i }

  settled_round : (m : Merging) → Sound t p m → Settled t p m → round t p m ≡ m
  settled_round m s settled =
      foldl_keeps (λ n. n ≡ m) (merge_zone t p) (numbers_below t.zones) (λ n z i q. ap (λ (k : Merging). merge_zone t p k z) q ∙ settled_merge m s settled z (mem_below t.zones i)) m refl

  -- a zone that leads home is marked by its merging, and so by a round
  merge_marks : (m : Merging) (z : ℕ) → z < t.zones → Sound t p m → leads_home t p m.labels z ≡ true → marked (merge_zone t p m z) z ≡ true
  unfolding merge_zone
  merge_marks m z h s leads = ap (λ (b : Bool). marked (merge_if t p b m z) z) leads ∙ after_marked laid m z h s.sized

  further_fold : (l : List ℕ) → ((x : ℕ) → Memᴰ x l → x < t.zones) → (m : Merging) → Sound t p m → MergedFurther t m (foldl (merge_zone t p) m l)
  further_fold l small m s =
      (foldl_keeps (λ n. Sound t p n × MergedFurther t m n) (merge_zone t p) l
      (λ n z i k. (sound_merge laid n z (small z i) k.0, further_more k.1 (further_merge laid n z (small z i) k.0))) m (s, further_same t m)).1

  fold_marks : (l : List ℕ) → ((x : ℕ) → Memᴰ x l → x < t.zones) → (z : ℕ) → Memᴰ z l → (m : Merging) → Sound t p m → leads_home t p m.labels z ≡ true → marked (foldl (merge_zone t p) m l) z ≡ true
  fold_marks [] small z i m s leads = absurd (mathlib.Core.List.Memᴰ.not-nil i)
  fold_marks (a ∷ l) small z i m s leads = by (mathlib.Core.List.Memᴰ.cases_cons i) (λ j. fold_marks l (λ x k. small x (mathlib.Core.List.Memᴰ.tail k)) z j (merge_zone t p m a) next still)
    where
      in_zones : z < t.zones
      in_zones = small z i

      next : Sound t p (merge_zone t p m a)
      next = sound_merge laid m a (small a (mathlib.Core.List.Memᴰ.head refl)) s

      still : leads_home t p (merge_zone t p m a).labels z ≡ true
      still =
          alike_leads laid (merge_zone t p m a) z (leads_held laid m z leads)
          ((further_merge laid m a (small a (mathlib.Core.List.Memᴰ.head refl)) s).coarser (leave t (standing p z)) t.home (leaves_in laid z in_zones) laid.home_in (leads_alike laid m z leads))

      by : (z ≡ a) ⊎ Memᴰ z l → (Memᴰ z l → marked (foldl (merge_zone t p) (merge_zone t p m a) l) z ≡ true) → marked (foldl (merge_zone t p) (merge_zone t p m a) l) z ≡ true
      by (inl e) rest =
          (further_fold l (λ x k. small x (mathlib.Core.List.Memᴰ.tail k)) (merge_zone t p m a) next).still_marked z
          (subst (λ (x : ℕ). marked (merge_zone t p m x) z ≡ true) e (merge_marks m z in_zones s leads))
      by (inr j) rest = rest j

  -- so a round settles, or leaves fewer waiting
  settled_or_fewer : (m : Merging) → Sound t p m → Settled t p m ⊎ (waiting t p (round t p m) < waiting t p m)
  settled_or_fewer m s = by (decided (any_of (λ z. leads_home t p m.labels z && not (marked m z)) (numbers_below t.zones)))
    where
      new : ℕ → Bool
      new z = leads_home t p m.labels z && not (marked m z)

      further : MergedFurther t m (round t p m)
      further = further_fold (numbers_below t.zones) (λ x i. mem_below t.zones i) m s

      waited : (z : ℕ) → Memᴰ z (numbers_below t.zones) → waits t p (round t p m) z ≡ true → waits t p m z ≡ true
      waited z i e =
          let open_now : marked (round t p m) z ≡ false = not-true (marked (round t p m) z) (and_right (not (is_free p z)) (not (marked (round t p m) z)) e) in
          let open-before : marked m z ≡ false = not_true_false (marked m z) (λ q. both_ways (further.still_marked z q) open_now) in
          and_both (not (is_free p z)) (not (marked m z)) (and_left (not (is_free p z)) (not (marked (round t p m) z)) e) (ap not open-before)

      by : (any_of new (numbers_below t.zones) ≡ true) ⊎ (any_of new (numbers_below t.zones) ≡ false) → Settled t p m ⊎ (waiting t p (round t p m) < waiting t p m)
      by (inl e) =
          let k : (z : ℕ) × (z < t.zones) × (new z ≡ true) = any_below new t.zones e in
          let z : ℕ = k.0 in
          let leads : leads_home t p m.labels z ≡ true = and_left (leads_home t p m.labels z) (not (marked m z)) k.2 in
          let i : Memᴰ z (numbers_below t.zones) = below_mem t.zones z k.1 in
          let now : marked (round t p m) z ≡ true = fold_marks (numbers_below t.zones) (λ x j. mem_below t.zones j) z i m s leads in
          inr
          (how_many_less (waits t p (round t p m)) (waits t p m) (numbers_below t.zones) waited i (and_second (not (is_free p z)) (not (marked (round t p m) z)) (ap not now))
          (and_both (not (is_free p z)) (not (marked m z)) (ap not (leads_held laid m z leads)) (and_right (leads_home t p m.labels z) (not (marked m z)) k.2)))
      by (inr e) = inl (λ z h leads. settle z leads (decided (marked m z)) (any_below_false new t.zones e z h))
        where
          settle : (z : ℕ) → leads_home t p m.labels z ≡ true → (marked m z ≡ true) ⊎ (marked m z ≡ false) → new z ≡ false → marked m z ≡ true
          settle z leads (inl q) n = q
          settle z leads (inr q) n = both_ways (and_both (leads_home t p m.labels z) (not (marked m z)) leads (ap not q)) n

  rounds_settle : (n : ℕ) (m : Merging) → Sound t p m → Settled t p (n_times n (round t p) m) ⊎ (waiting t p (n_times n (round t p) m) + n ≤ waiting t p m)
  rounds_settle zero m s = inr (omega arith)
  rounds_settle (suc n) m s = by (settled_or_fewer m s) (rounds_settle n (round t p m) (sound_round laid m s))
    where
      kept : Settled t p m → Settled t p (n_times n (round t p) (round t p m))
      kept settled =
          let q : n_times n (round t p) (round t p m) ≡ m = n_times_keeps (λ k. k ≡ m) (round t p) (λ k q. ap (round t p) q ∙ settled_round m s settled) (suc n) m refl in
          subst (Settled t p) (sym q) settled

      by : Settled t p m ⊎ (waiting t p (round t p m) < waiting t p m) → Settled t p (n_times n (round t p) (round t p m)) ⊎ (waiting t p (n_times n (round t p) (round t p m)) + n ≤ waiting t p (round t p m)) → Settled t p (n_times n (round t p) (round t p m)) ⊎ (waiting t p (n_times n (round t p) (round t p m)) + suc n ≤ waiting t p m)
      by (inl settled) rest = inl (kept settled)
      by (inr fewer) (inl settled) = inl settled
      by (inr fewer) (inr few) = inr (omega arith)

module _ {t : Track} {p : Position} (laid : Laid t p) where
  -- as many are out as zones hold a carrier
  outs_counted : length (outs p) ≡ how_many (λ z. not (eqb (carrier_of (at p z)) 0)) (numbers_below t.zones)
  outs_counted =
      length_ascending (keep (λ c. not (eqb c 0)) (map carrier_of p))
      ∙ how_many_map (λ c. not (eqb c 0)) carrier_of p
      ∙ how_many_places (λ v. not (eqb (carrier_of v) 0)) p
      ∙ ap (λ (n : ℕ). how_many (λ z. not (eqb (carrier_of (at p z)) 0)) (numbers_below n)) laid.each

  few_waiting : waiting t p (before t p) ≤ length (outs p)
  few_waiting =
      subst (λ (n : ℕ). waiting t p (before t p) ≤ n) (sym outs_counted)
      (how_many_mono (waits t p (before t p)) (λ z. not (eqb (carrier_of (at p z)) 0)) (numbers_below t.zones) numbered)
    where
      numbered : (z : ℕ) → Memᴰ z (numbers_below t.zones) → waits t p (before t p) z ≡ true → not (eqb (carrier_of (at p z)) 0) ≡ true
      numbered z i e =
          let free : is_free p z ≡ false = not-true (is_free p z) (and_left (not (is_free p z)) (not (marked (before t p) z)) e) in
          ap not (ne_eqb (carrier_of (at p z)) 0 (laid_numbered t p laid z (eqb-false (at p z) 0 free)))

  pub settled_all : Settled t p (merge_all t p)
  unfolding merge_all
  settled_all z h leads = by (rounds_settle laid (length (outs p)) (before t p) (sound_before laid)) (decided (marked last z))
    where
      last : Merging
      last = n_times (length (outs p)) (round t p) (before t p)

      by : Settled t p last ⊎ (waiting t p last + length (outs p) ≤ waiting t p (before t p)) → (marked last z ≡ true) ⊎ (marked last z ≡ false) → marked last z ≡ true
      by (inl settled) m = settled z h leads
      by (inr few) (inl e) = e
      by (inr few) (inr e) =
          let most : waiting t p (before t p) ≤ length (outs p) = few_waiting in
          let some : how_many (λ (x : ℕ). false) (numbers_below t.zones) < waiting t p last =
          how_many_less (λ x. false) (waits t p last) (numbers_below t.zones) (λ x i q. both_ways q refl) (below_mem t.zones z h) refl
          (and_both (not (is_free p z)) (not (marked last z)) (ap not (leads_held laid last z leads)) (ap not e)) in
          absurd (omega arith)

-- Words put at the end of the queue's two lists: what is still to come decides what the lists hold at the end.
-- Stores go one by one (`sets` of lib.Seq), so one word more is one step, and several are several steps.
use Prim.Native.Nat.{ℕ, suc, ◌+◌}
use mathlib.Core.Path.{◌≡◌, refl, sym, ◌∙◌, ap, ap₂}
use mathlib.Core.List.{List, [], ◌∷◌, ◌++◌, map, map-append}
use native.Mathlib.Numerals.{add-one}
use native.Mathlib.Omega.{arith}
use lib.ListN.{length, set, length-set, length-append, length-map}
use lib.Seq.{sets, length-sets}
use Rattle.model.proofs.StoreLaws.{sets_append, overwritten_sets}
use Rattle.queue.specs.Offers.{QueueRoom, Stored}

-- `left` is still to be stored from n on; the lists then are as with `all` stored from `found` on at the start
pub record Filling (i n : ℕ) (left words froms : List ℕ) (found : ℕ) (all words₀ froms₀ : List ℕ) : Type 0 where
  pub words_same : length words ≡ length words₀
  pub froms_same : length froms ≡ length froms₀
  pub counted : n + length left ≡ found + length all
  pub words_end : sets words n left ≡ sets words₀ found all
  pub froms_end : sets froms n (map (λ v. i) left) ≡ sets froms₀ found (map (λ v. i) all)

pub filling_starts : (i found : ℕ) (all words froms : List ℕ) → Filling i found all words froms found all words froms
filling_starts i found all words froms = record { words_same = refl; froms_same = refl; counted = refl; words_end = refl; froms_end = refl }

module _ {i n : ℕ} {left words froms : List ℕ} {found : ℕ} {all words₀ froms₀ : List ℕ} (room : QueueRoom all found words₀ froms₀) (f : Filling i n left words froms found all words₀ froms₀) where
  -- the first words to come fit
  pub filling_room : {vs : List ℕ} (more : List ℕ) → left ≡ vs ++ more → QueueRoom vs n words froms
  filling_room {vs} more e =
      let l : length left ≡ length vs + length more = ap length e ∙ length-append vs more in
      record { in_words = omega (arith, f.counted, f.words_same, room.in_words); in_froms = omega (arith, f.counted, f.froms_same, room.in_froms) }

  pub filling_one : {v : ℕ} {more : List ℕ} → left ≡ v ∷ more → Filling i (n + 1) more (set words n v) (set froms n i) found all words₀ froms₀
  filling_one {v} {more} e =
      let l : length left ≡ suc (length more) = ap length e in
      record {
        words_same = length-set words n v ∙ f.words_same;
        froms_same = length-set froms n i ∙ f.froms_same;
        counted = omega (arith, f.counted);
        words_end = ap (λ (k : ℕ). sets (set words n v) k more) (add-one n) ∙ ap (sets words n) (sym e) ∙ f.words_end;
        froms_end =
            ap (λ (k : ℕ). sets (set froms n i) k (map (λ v. i) more)) (add-one n) ∙
            ap (λ (r : List ℕ). sets froms n (map (λ v. i) r)) (sym e) ∙
            f.froms_end;
      }

  -- several at once
  pub filling_many : {vs words' froms' : List ℕ} {r : ℕ} (more : List ℕ) → left ≡ vs ++ more → Stored vs i n words froms words' froms' r → Filling i r more words' froms' found all words₀ froms₀
  filling_many {vs} {words'} {froms'} {r} more e s =
      let l : length left ≡ length vs + length more = ap length e ∙ length-append vs more in
      let b : QueueRoom vs n words froms = filling_room more e in
      let w : words' ≡ sets words n vs = s.words_stored ∙ sym (overwritten_sets words n vs b.in_words) in
      let m : length (map (λ v. i) vs) ≡ length vs = length-map vs (λ v. i) in
      let g : froms' ≡ sets froms n (map (λ v. i) vs) = s.froms_stored ∙ sym (overwritten_sets froms n (map (λ v. i) vs) (omega (arith, b.in_froms))) in
      record {
        words_same = ap length w ∙ length-sets words n vs ∙ f.words_same;
        froms_same = ap length g ∙ length-sets froms n (map (λ v. i) vs) ∙ f.froms_same;
        counted = omega (arith, f.counted, s.longer);
        words_end =
            ap₂ (λ (a : List ℕ) (k : ℕ). sets a k more) w s.longer ∙
            sym (sets_append words n vs more) ∙
            ap (sets words n) (sym e) ∙
            f.words_end;
        froms_end =
            ap₂ (λ (a : List ℕ) (k : ℕ). sets a k (map (λ v. i) more)) g (s.longer ∙ ap (λ (k : ℕ). n + k) (sym m)) ∙
            sym (sets_append froms n (map (λ v. i) vs) (map (λ v. i) more)) ∙
            ap (sets froms n) (sym (map-append (λ v. i) vs more)) ∙
            ap (λ (r : List ℕ). sets froms n (map (λ v. i) r)) (sym e) ∙
            f.froms_end;
      }

  pub filling_done : left ≡ [] → Stored all i found words₀ froms₀ words froms n
  filling_done e =
      let l : length left ≡ 0 = ap length e in
      let m : length (map (λ v. i) all) ≡ length all = length-map all (λ v. i) in
      record {
        longer = omega (arith, f.counted);
        words_stored = ap (sets words n) (sym e) ∙ f.words_end ∙ overwritten_sets words₀ found all room.in_words;
        froms_stored =
            ap (λ (r : List ℕ). sets froms n (map (λ v. i) r)) (sym e) ∙
            f.froms_end ∙
            overwritten_sets froms₀ found (map (λ v. i) all) (omega (arith, room.in_froms));
      }

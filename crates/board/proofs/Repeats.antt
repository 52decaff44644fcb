-- Row 7: the table of the low bytes met, zone by zone, and what it says of a zone's test. A carrier whose low byte isn't in the table stands in
-- no earlier zone; where it is, the earlier zones tell. A zone's low byte is marked after its test, so the table is about the zones before it.
use Prim.Native.Nat.{ℕ, ◌+◌, ◌%◌, ◌<◌}
use native.Mathlib.Omega.{arith}
use native.Mathlib.Numerals.{add-one}
use mathlib.Core.List.{List, [], ◌∷◌}
use mathlib.Core.Path.{◌≡◌, refl, sym, ◌∙◌, ap, subst}
use mathlib.Core.Bool.{Bool, true, false, not, ◌&&◌, ◌||◌, or-false, and-false, true≢false}
use lib.ListN.{length, get_or, set, length-set}
use lib.Seq.{get_or-set_same, get_or-set_other}
use lib.Dec.{eqb}
use borrow.Author.Count.{below_more}
use borrow.Author.Tests.{ne_eqb, eqb-true, eqb-false}
use Rattle.std.specs.List.{list_any, range_with_len}
use Rattle.model.specs.Lists.{numbers_below, any_of}
use Rattle.model.specs.Reading.{repeated, carrier_in}
use Rattle.model.proofs.ListLaws.{any_append, below_any, below_any_false, below_suc}
use Rattle.board.specs.declared.input.Zone.{Zone}
use Rattle.board.specs.Inner.{ZoneAt, stood_before}
use Rattle.board.proofs.Chains.{any_listed, range_listed}

-- the low byte of zone y's carrier is in the table, and that of a free zone too
abbrev Marked : List ℕ → List Bool → ℕ → Type 0
Marked b seen y = get_or seen (carrier_in b y % 256) false ≡ true

-- so for the zones before z
pub record Seen (b : List ℕ) (seen : List Bool) (z : ℕ) : Type 0 where
  pub size : length seen ≡ 256
  pub marked : (y : ℕ) → y < z → Marked b seen y

module _ {b : List ℕ} {seen : List Bool} {z : ℕ} {r : Zone} (S : Seen b seen z) (Z : ZoneAt b z r) where
  pub seen_next : Seen b (set seen (r.carrier % 256) true) (z + 1)
  seen_next = record {
    size = length-set seen (r.carrier % 256) true ∙ S.size;
    marked = below_more (Marked b (set seen (r.carrier % 256) true)) z (λ y l. kept y (S.marked y l)) (at (carrier_in b z % 256) (sym low));
  }
    where
      low : r.carrier % 256 ≡ carrier_in b z % 256
      low = ap (λ (x : ℕ). x % 256) Z.carrier_is

      at : (k : ℕ) → k ≡ r.carrier % 256 → get_or (set seen (r.carrier % 256) true) k false ≡ true
      at k e =
          ap (λ (x : ℕ). get_or (set seen (r.carrier % 256) true) x false) e ∙
          get_or-set_same seen (r.carrier % 256) true false (subst (λ (n : ℕ). r.carrier % 256 < n) (sym S.size) (omega arith))

      kept : (y : ℕ) → get_or seen (carrier_in b y % 256) false ≡ true → get_or (set seen (r.carrier % 256) true) (carrier_in b y % 256) false ≡ true
      kept y m = go (eqb (carrier_in b y % 256) (r.carrier % 256)) refl
        where
          go : (t : Bool) → eqb (carrier_in b y % 256) (r.carrier % 256) ≡ t → get_or (set seen (r.carrier % 256) true) (carrier_in b y % 256) false ≡ true
          go true e = at (carrier_in b y % 256) (eqb-true (carrier_in b y % 256) (r.carrier % 256) e)
          go false e = get_or-set_other seen (r.carrier % 256) (carrier_in b y % 256) true false (eqb-false (carrier_in b y % 256) (r.carrier % 256) e) ∙ m

  -- none before has the low byte, so none has the carrier
  pub new_carrier : get_or seen (r.carrier % 256) false ≡ false → false ≡ stood_before b r.carrier z
  unfolding stood_before
  new_carrier e = sym (below_any_false (λ y. eqb (carrier_in b y) r.carrier) z (λ y l. ne_eqb (carrier_in b y) r.carrier (other y l)))
    where
      other : (y : ℕ) → y < z → carrier_in b y ≡ r.carrier → ⊥
      other y l q = true≢false (sym (S.marked y l) ∙ ap (λ (c : ℕ). get_or seen (c % 256) false) q ∙ e)

-- the chain over the zones before z
pub stood_any : (b : List ℕ) (c z : ℕ) → list_any (λ y. eqb (carrier_in b y) c) (range_with_len 0 z) ≡ stood_before b c z
unfolding stood_before
stood_any b c z = any_listed (λ y. eqb (carrier_in b y) c) (range_with_len 0 z) ∙ ap (any_of (λ y. eqb (carrier_in b y) c)) (range_listed 0 z)

module _ {b : List ℕ} {z : ℕ} {r : Zone} (Z : ZoneAt b z r) where
  repeated_is : repeated b z ≡ (not (eqb r.carrier 0) && stood_before b r.carrier z)
  unfolding repeated stood_before
  repeated_is = ap (λ (x : ℕ). not (eqb x 0) && any_of (λ y. eqb (carrier_in b y) x) (numbers_below z)) (sym Z.carrier_is)

  -- row 7's test of the zone
  pub repeated_free : r.carrier ≡ 0 → repeated b z ≡ false
  repeated_free e = repeated_is ∙ ap (λ (x : ℕ). not (eqb x 0) && stood_before b x z) e

  pub repeated_new : false ≡ stood_before b r.carrier z → repeated b z ≡ false
  repeated_new e = repeated_is ∙ ap (λ (s : Bool). not (eqb r.carrier 0) && s) (sym e) ∙ and-false (not (eqb r.carrier 0))

  pub repeated_met : (r.carrier ≡ 0 → ⊥) → true ≡ stood_before b r.carrier z → repeated b z ≡ true
  repeated_met n e = repeated_is ∙ simp (ne_eqb r.carrier 0 n) (sym e)

-- whether a carrier stood before, of one zone more
module _ (b : List ℕ) (z : ℕ) where
  pub again_none : {t : Bool} → t ≡ any_of (repeated b) (numbers_below z) → repeated b z ≡ false → t ≡ any_of (repeated b) (numbers_below (z + 1))
  again_none T e =
      T ∙ sym (ap (λ (x : ℕ). any_of (repeated b) (numbers_below x)) (add-one z) ∙ ap (any_of (repeated b)) (below_suc z) ∙ any_append (repeated b) (numbers_below z) (z ∷ []) ∙
      ap (λ (t : Bool). any_of (repeated b) (numbers_below z) || (t || false)) e ∙ or-false (any_of (repeated b) (numbers_below z)))

  pub again_met : repeated b z ≡ true → true ≡ any_of (repeated b) (numbers_below (z + 1))
  again_met e = sym (below_any (repeated b) (z + 1) z (omega arith) e)

-- The number of the entry that the words start with, case by case as the code finds it: 30 by the counts, 31 and 32 by the standing and a look
-- through the position, else the number of its route. Each case is the rules' four tests in their order.
use Prim.Native.Nat.{ℕ, ◌+◌, ◌-◌, ◌*◌, ◌≤◌, ◌<◌}
use mathlib.Core.List.{List, [], ◌∷◌}
use mathlib.Core.Path.{◌≡◌, refl, sym, ap, ap₂, ◌∙◌}
use mathlib.Core.Bool.{Bool, true, false, not, ◌&&◌, ◌||◌, false≢true}
use native.Mathlib.Omega.{arith}
use lib.ListN.{length, get_or, take, drop, set}
use lib.Seq.{take_all, drop-drop}
use denote.Ref.{Bor}
use borrow.Rule.Slice.PartAt.{part_to_end}
use lib.Dec.{ltb, eqb}
use borrow.Author.Tests.{lt-ltb, le-ltb, eq-eqb, ne_eqb, not-true, not-false}
use Rattle.std.specs.Prelude.{Ok, Err}
use Rattle.std.specs.List.{IsSplitAt}
use Rattle.model.specs.Track.{Track, zone_of, heading_of}
use Rattle.model.specs.Position.{Position, at}
use Rattle.model.proofs.BoolLaws.{and_left, or_left, or_right}
use Rattle.model.proofs.PositionLaws.{retire_set}
use Rattle.rules.specs.Sheet.{still_out, follow, by_rules, by_rules_by, ends_home, number_of, mark_entry_by}
use Rattle.rules.proofs.OutTested.{stands_out}
use Rattle.marker.specs.declared.fault.Fault.{Fault}
use Rattle.marker.specs.declared.fault.Fault.TheVariants.{BadSheet, NotOut, BadWord}
use Rattle.marker.specs.Faults.{fault_number}
use Rattle.marker.specs.Marked.{Markable, stands_at, route_number, entry_number, EntryMarked}
use Rattle.marker.proofs.StandingLaws.{standing_stands}

-- a list by its first numbers, and what the code takes as the rest

abbrev others_of : List ℕ → List ℕ
others_of l = take (length l - 1) (drop 1 l)

one_first : (l : List ℕ) → 1 ≤ length l → l ≡ get_or l 0 0 ∷ others_of l
one_first [] h = absurd (omega arith)
one_first (a ∷ l) h = ap (λ (m : List ℕ). a ∷ m) (sym (take_all (length (a ∷ l) - 1) l (omega arith)))

two_first : (l : List ℕ) → 2 ≤ length l → l ≡ get_or l 0 0 ∷ get_or l 1 0 ∷ take (length l - 2) (drop 2 l)
two_first [] h = absurd (omega arith)
two_first (a ∷ []) h = absurd (omega arith)
two_first (a ∷ b ∷ l) h = ap (λ (m : List ℕ). a ∷ b ∷ m) (sym (take_all (length (a ∷ b ∷ l) - 2) l (omega arith)))

-- a first word that isn't the standing of a carrier that is out is against the rules
no_standing : (t : Track) (p : Position) (c w : ℕ) (vs : List ℕ) → still_out p c ≡ true → stands_at t.zones p c w ≡ false → by_rules t p c (w ∷ vs) ≡ false
unfolding by_rules_by still_out
no_standing t p c w vs o s = go (eqb c 0) (ltb w (2 * t.zones)) (eqb (at p (zone_of w)) (2 * c + heading_of w)) (and_left (not (eqb c 0)) _ o) s
  where
    go : (a b d : Bool) → not a ≡ true → (not a && (b && d)) ≡ false → (b && (d && follow t p c w vs)) ≡ false
    go true b d e f = absurd (false≢true e)
    go false true true e f = absurd (false≢true (sym f))
    go false true false e f = refl
    go false false d e f = refl

-- from the standing on the rules are those of the route
by_standing : (t : Track) (p : Position) (c w : ℕ) (vs : List ℕ) → stands_at t.zones p c w ≡ true → by_rules t p c (w ∷ vs) ≡ follow t p c w vs
unfolding by_rules_by
by_standing t p c w vs s = go (eqb c 0) (ltb w (2 * t.zones)) (eqb (at p (zone_of w)) (2 * c + heading_of w)) s
  where
    go : (a b d : Bool) → (not a && (b && d)) ≡ true → (b && (d && follow t p c w vs)) ≡ follow t p c w vs
    go true b d e = absurd (false≢true e)
    go false true true e = refl
    go false true false e = absurd (false≢true e)
    go false false d e = absurd (false≢true e)

-- the words that start with the entry
module _ (ws : List ℕ) where
  abbrev carrier : ℕ
  carrier = get_or ws 0 0

  abbrev counted : ℕ
  counted = get_or ws 1 0

  -- all after the count
  abbrev others : List ℕ
  others = take (length ws - 2) (drop 2 ws)

  -- they are taken apart into so many as the count says, of which there are some, and the rest
  pub record WholeEntry (own rest : List ℕ) : Type 0 where
    pub two : 2 ≤ length ws
    pub parts : IsSplitAt others counted own rest
    pub some : 1 ≤ length own

  past : 2 ≤ length ws → drop counted others ≡ drop (2 + counted) ws
  past h = ap (drop counted) (part_to_end ws 2) ∙ drop-drop counted 2 ws

  module _ (t : Track) (p : Position) where
    number_short : 0 < length ws → length ws < 2 → 30 ≡ entry_number t p ws
    unfolding entry_number mark_entry_by
    number_short h s = go ws h s
      where
        go : (l : List ℕ) → 0 < length l → length l < 2 → 30 ≡ entry_number t p l
        go [] h s = absurd (omega arith)
        go (c ∷ []) h s = refl
        go (c ∷ k ∷ l) h s = absurd (omega arith)

    number_counted : 2 ≤ length ws → entry_number t p ws ≡ number_of (eqb counted 0 || ltb (length others) counted) (still_out p carrier) (by_rules t p carrier (take counted others)) (ends_home t (take counted others)) 0
    unfolding entry_number mark_entry_by
    number_counted h = ap (entry_number t p) (two_first ws h)

    module _ {own rest : List ℕ} (h : WholeEntry own rest) where
      some_words : counted ≡ 0 → ⊥
      some_words e = omega (arith, h.some, h.parts.3)

      whole_test : (eqb counted 0 || ltb (length others) counted) ≡ false
      whole_test = rw (ne_eqb counted 0 some_words) (le-ltb (length others) counted h.parts.0)

      number_whole : entry_number t p ws ≡ number_of false (still_out p carrier) (by_rules t p carrier (get_or own 0 0 ∷ others_of own)) (ends_home t (get_or own 0 0 ∷ others_of own)) 0
      number_whole =
          number_counted h.two
          ∙ ap₂ (λ (a : Bool) (r : List ℕ). number_of a (still_out p carrier) (by_rules t p carrier r) (ends_home t r) 0) whole_test (sym h.parts.1 ∙ one_first own h.some)

-- what the code finds at the entry, as it finds it
module _ {t : Track} {p : Position} {ws : List ℕ} where
  -- an entry that fails leaves the position as it was
  fails : (f : Fault) → fault_number f ≡ entry_number t p ws → EntryMarked t p ws (Err f) p
  fails f e = record { number = e; rest = tt; leaves = refl }

  pub short_fails : 0 < length ws → length ws < 2 → EntryMarked t p ws (Err BadSheet) p
  short_fails h s = fails BadSheet (number_short ws t p h s)

  -- its count of words isn't there, or is 0
  not_whole : 2 ≤ length ws → (eqb (counted ws) 0 || ltb (length (others ws)) (counted ws)) ≡ true → EntryMarked t p ws (Err BadSheet) p
  not_whole h e =
      let words = take (counted ws) (others ws) in
      fails BadSheet (sym (number_counted ws t p h ∙ ap (λ (a : Bool). number_of a (still_out p (carrier ws)) (by_rules t p (carrier ws) words) (ends_home t words) 0) e))

  pub past_fails : 2 ≤ length ws → length (others ws) < counted ws → EntryMarked t p ws (Err BadSheet) p
  past_fails h s = not_whole h (or_right (eqb (counted ws) 0) (ltb (length (others ws)) (counted ws)) (lt-ltb (length (others ws)) (counted ws) s))

  pub empty_fails : {own rest : List ℕ} → 2 ≤ length ws → IsSplitAt (others ws) (counted ws) own rest → length own < 1 → EntryMarked t p ws (Err BadSheet) p
  empty_fails h e s =
      let none : counted ws ≡ 0 = omega (arith, e.3) in
      not_whole h (or_left (eqb (counted ws) 0) (ltb (length (others ws)) (counted ws)) (eq-eqb (counted ws) 0 none))

  module _ {own rest : List ℕ} (h : WholeEntry ws own rest) where
    pub out_fails : {o : Bool} → o ≡ still_out p (carrier ws) → o ≡ false → EntryMarked t p ws (Err NotOut) p
    out_fails e f =
        let r = get_or own 0 0 ∷ others_of own in
        fails NotOut (sym (number_whole ws t p h ∙ ap (λ (b : Bool). number_of false b (by_rules t p (carrier ws) r) (ends_home t r) 0) (sym e ∙ f)))

    pub standing_fails : {o s : Bool} → o ≡ still_out p (carrier ws) → o ≡ true → s ≡ stands_at t.zones p (carrier ws) (get_or own 0 0) → not s ≡ true → EntryMarked t p ws (Err BadWord) p
    standing_fails {o} {s} e f g n =
        let r = get_or own 0 0 ∷ others_of own in
        let against = no_standing t p (carrier ws) (get_or own 0 0) (others_of own) (sym e ∙ f) (sym g ∙ not-true s n) in
        fails BadWord (sym (number_whole ws t p h ∙ ap₂ (λ (b d : Bool). number_of false b d (ends_home t r) 0) (sym e ∙ f) against))

    -- past the standing's test the route decides
    module _ (m : Markable t p) {s : Bool} (g : s ≡ stands_at t.zones p (carrier ws) (get_or own 0 0)) (k : not s ≡ false) where
      stood : stands_at t.zones p (carrier ws) (get_or own 0 0) ≡ true
      stood = sym g ∙ not-false s k

      route_decides : entry_number t p ws ≡ route_number t p (carrier ws) (get_or own 0 0) (others_of own)
      unfolding route_number
      route_decides =
          let c = carrier ws in
          let w = get_or own 0 0 in
          let vs = others_of own in
          number_whole ws t p h
          ∙ ap₂ (λ (b d : Bool). number_of false b d (ends_home t (w ∷ vs)) 0) (stands_out (standing_stands t.zones p c w stood m.each)) (by_standing t p c w vs stood)

      pub route_fails : {f : Fault} → fault_number f ≡ route_number t p (carrier ws) (get_or own 0 0) (others_of own) → EntryMarked t p ws (Err f) p
      route_fails {f} e = fails f (e ∙ sym route_decides)

      pub route_passes : {b : Bor (List ℕ)} → b.now ≡ rest → 0 ≡ route_number t p (carrier ws) (get_or own 0 0) (others_of own) → EntryMarked t p ws (Ok b) (set p (zone_of (get_or own 0 0)) 0)
      route_passes is e = record {
        number = e ∙ sym route_decides;
        rest = is ∙ h.parts.2 ∙ past ws h.two;
        leaves = sym (retire_set m.once (standing_stands t.zones p (carrier ws) (get_or own 0 0) stood m.each));
      }

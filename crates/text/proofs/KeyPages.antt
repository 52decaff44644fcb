-- The page of at most 486 bytes, from what the key gives into room for every plan and list: 18,624 words and 96 carriers are always enough,
-- so the key turns a board back exactly where the reader refuses it, and what it wrote is read back by its lengths.
use Prim.Native.Nat.{ℕ, ◌≤◌}
use mathlib.Core.List.{List}
use mathlib.Core.Path.{◌≡◌, refl, sym, ap, ◌∙◌, subst}
use mathlib.Core.Bool.{Bool, true, false, cond, true≢false}
use native.Mathlib.Omega.{arith}
use borrow.Author.Tests.{eqb-true, eqb-false}
use lib.ListN.{length, take}
use lib.Dec.{eqb}
use Rattle.model.specs.Track.{Track}
use Rattle.model.specs.Position.{Position, outs}
use Rattle.model.specs.Accepted.{Ready}
use Rattle.model.specs.Reading.{Bytes, refusal, track_said, position_said}
use Rattle.model.proofs.ReadingLaws.{refusal_small, ready_said}
use Rattle.rules.specs.Key.{KeyAnswer, turns_back, run, named, verdict_of, plan_words, key_for, key_for_by, key_of}
use Rattle.order.proofs.Sizes.{plan_room, named_most}
use Rattle.page.specs.Page.{key_page, refused_page, page_for, page_of, LONGEST, PAGE}
use Rattle.page.specs.Writing.{entries_in, Begins, Writable}
use Rattle.page.proofs.PlanLaws.{entries_in_plan}
use Rattle.page.proofs.Bound.{SmallKey, refused_page_fits}
use Rattle.page.proofs.Callers.{page_refused, page_right, writable}
use Rattle.exam.specs.Answers.{KeyNumbers}
use Rattle.exam.specs.Parsed.{KeyGiven, summary_of}
use Rattle.exam.proofs.ReadyLaws.{few_out, room_small}
use Rattle.exam.proofs.KeyLaws.{verdict_goes, refused_turns_back, key_refused, key_read, key_for_lem}
use Rattle.exam.proofs.KeyPromised.{read_back}
use Rattle.text.specs.Text.{Answerable, answer_page}
use Rattle.text.proofs.Sizes.{small_page}
use Rattle.text.proofs.Pages.{same_page}

module _ (b : List ℕ) {plan list plan' list' : List ℕ} (said : KeyNumbers)
    (small : Bytes b)
    (plan-long : length plan ≡ 18624)
    (list-long : length list ≡ 96)
    (given : KeyGiven (key_of b (length plan) (length list)) plan list said.verdict said.planned said.listed plan' list')
    (summary-said : said.summary ≡ summary_of (track_said b) (position_said b) said.verdict)
  where
    abbrev t : Track
    t = track_said b

    abbrev p : Position
    p = position_said b

    -- the key is drawn where the reader accepts the board
    drawn : refusal b ≡ 0 → key_of b (length plan) (length list) ≡ key_for t p
    drawn none =
        let ready = ready_said b small none in
        key_read b (length plan) (length list) none ∙
        key_for_lem t p (length plan) (length list) (omega (arith, room_small ready {out = length (outs p)} refl, plan-long)) (omega (arith, few_out ready, list-long))

    turned_back : (refusal b ≡ 0 → ⊥) → said.verdict ≡ refusal b
    turned_back wrong = given.verdict_is ∙ ap (λ (k : KeyAnswer). k.verdict) (key_refused b (length plan) (length list) wrong)

    refused : turns_back said.verdict ≡ true → refusal b ≡ 0 → ⊥
    unfolding key_for_by
    refused back none =
        true≢false (sym back ∙ ap turns_back (given.verdict_is ∙ ap (λ (k : KeyAnswer). k.verdict) (drawn none)) ∙ verdict_goes (named t p))

    refused_fits : (page : List ℕ) → turns_back said.verdict ≡ true → PAGE ≤ length page → length (refused_page said.verdict) ≤ length page
    refused_fits page back room =
        let s = refusal_small b in
        let f = refused_page_fits said.verdict (omega (arith, turned_back (refused back))) in
        omega arith

    refused_begun : {before after : List ℕ} {n : ℕ} → length b ≤ LONGEST → turns_back said.verdict ≡ true → Begins (refused_page said.verdict) before after n → Begins (page_of b) before after n
    refused_begun short back = same_page (page_refused b short (refused back) ∙ ap refused_page (sym (turned_back (refused back))))

    module _ (on : turns_back said.verdict ≡ false) where
      accepted : refusal b ≡ 0
      accepted = go (eqb (refusal b) 0) refl
        where
          go : (x : Bool) → eqb (refusal b) 0 ≡ x → refusal b ≡ 0
          go true e = eqb-true (refusal b) 0 e
          go false e =
              let wrong = eqb-false (refusal b) 0 e in
              absurd (true≢false (sym (refused_turns_back b wrong) ∙ ap turns_back (sym (turned_back wrong)) ∙ on))

      ready : Ready t p
      ready = ready_said b small accepted

      answer : KeyGiven (key_for t p) plan list said.verdict said.planned said.listed plan' list'
      answer = subst (λ (a : KeyAnswer). KeyGiven a plan list said.verdict said.planned said.listed plan' list') (drawn accepted) given

      -- what is said, and what was written
      summary_is : said.summary ≡ record { points = t.points; zones = t.zones; out = length (outs p) }
      summary_is = summary-said ∙ rw on

      verdict_is : said.verdict ≡ verdict_of (named t p)
      unfolding key_for_by
      verdict_is = answer.verdict_is

      planned_is : said.planned ≡ length (plan_words (run t p).plan)
      unfolding key_for_by
      planned_is = answer.planned_is

      listed_is : said.listed ≡ length (named t p)
      unfolding key_for_by
      listed_is = answer.listed_is

      plan_written : take said.planned plan' ≡ plan_words (run t p).plan
      unfolding key_for_by
      plan_written = read_back (plan_words (run t p).plan) plan planned_is answer.plan_is

      list_written : take said.listed list' ≡ named t p
      unfolding key_for_by
      list_written = read_back (named t p) list listed_is answer.list_is

      small_key : SmallKey said.summary said.verdict (run t p).plan (take said.listed list')
      small_key = rw (summary_is, verdict_is, list_written) (small_page ready)

      planned_in : length plan' ≡ length plan → said.planned ≤ length plan'
      planned_in kept = omega (arith, planned_is, plan_room t p ready.bounded.laid, room_small ready {out = length (outs p)} refl, plan-long)

      listed_in : length list' ≡ length list → said.listed ≤ length list'
      listed_in kept = omega (arith, listed_is, named_most t p ready.bounded.laid, few_out ready, list-long)

      can_write : {page : List ℕ} → PAGE ≤ length page → Writable said.summary said.verdict (take said.planned plan') (take said.listed list') page
      can_write room = writable (run t p).plan plan_written small_key room

      key_begun : {before after : List ℕ} {n : ℕ} → length b ≤ LONGEST → Begins (key_page said.summary said.verdict (entries_in (take said.planned plan')) (take said.listed list')) before after n → Begins (page_of b) before after n
      unfolding page_for
      key_begun short begins = same_page (page_right b short accepted) (rw (summary_is, verdict_is, entries_in_plan (run t p).plan plan_written, list_written) at begins)

    pub answerable : {page : List ℕ} → length plan' ≡ length plan → length list' ≡ length list → PAGE ≤ length page → Answerable said plan' list' page
    answerable {page} plan-kept list-kept room = record {
      planned = λ on. planned_in on plan-kept;
      listed = λ on. listed_in on list-kept;
      is_plan = λ on. (can_write on {page = page} room).is_plan;
      room = fits (turns_back said.verdict) refl;
    }
      where
        fits : (x : Bool) → turns_back said.verdict ≡ x
            → length (cond x (refused_page said.verdict) (key_page said.summary said.verdict (entries_in (take said.planned plan')) (take said.listed list'))) ≤ length page
        fits true back = refused_fits page back room
        fits false on = (can_write on {page = page} room).room

    pub page_begun : {before after : List ℕ} {n : ℕ} → length b ≤ LONGEST → Begins (answer_page said plan' list') before after n → Begins (page_of b) before after n
    page_begun {before} {after} {n} short = begun (turns_back said.verdict) refl
      where
        begun : (x : Bool) → turns_back said.verdict ≡ x
            → Begins (cond x (refused_page said.verdict) (key_page said.summary said.verdict (entries_in (take said.planned plan')) (take said.listed list'))) before after n
            → Begins (page_of b) before after n
        begun true back = refused_begun short back
        begun false on = key_begun on short

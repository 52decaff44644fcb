-- What a page is written from is small on every position that is ready, so every page fits: at most 96 zones with at most 96 carriers,
-- carriers below 65,536, routes of at most 192 words. From the sizes of the key's plan and list.
use Prim.Native.Nat.{ℕ, ◌≤◌, ◌<◌}
use mathlib.Core.List.Memᴰ
use mathlib.Core.List.{List, [], ◌∷◌, Memᴰ}
use native.Mathlib.Omega.{arith}
use lib.ListN.{length}
use Rattle.model.specs.Track.{Track, zone_of}
use Rattle.model.specs.Position.{Position, Out}
use Rattle.rules.specs.Routes.{Entry}
use Rattle.rules.specs.Key.{run, named, verdict_of}
use Rattle.order.proofs.KeyRun.{run_retires}
use Rattle.order.proofs.Named.{named_out}
use Rattle.order.proofs.Retired.{leaving_out}
use Rattle.order.proofs.Sizes.{plan_fits, plan_entries, named_most}
use Rattle.page.specs.Page.{page_of, PAGE}
use Rattle.page.proofs.Bound.{SmallEntry, SmallPage, page_of_fits}
use Rattle.model.specs.Accepted.{Ready}
use Rattle.exam.proofs.ReadyLaws.{few_out}
use Rattle.model.proofs.ReadingLaws.{ready_said}
use Rattle.model.specs.Reading.{Bytes}

verdict_small : (l : List ℕ) → verdict_of l < 1000
verdict_small [] = omega arith
verdict_small (c ∷ l) = omega arith

module _ {t : Track} {p : Position} (ready : Ready t p) where
  out_small : {c : ℕ} → Out p c → c < 65536
  out_small (w, s) = omega (arith, s.holds, ready.limited (zone_of w))

  entry_small : (e : Entry) → Memᴰ e (run t p).plan → SmallEntry e
  entry_small e m =
      let fits = plan_fits t p ready.bounded.laid e m in
      record {
        carrier_small = out_small (leaving_out (run_retires t p ready.bounded.laid) (Memᴰ.map (λ f. f.carrier) m));
        words_few = omega (arith, fits.short, ready.bounded.zones_most);
        words_small = λ w k. omega (arith, fits.words_below w k, ready.bounded.zones_most);
      }

  pub small_page : SmallPage t p
  small_page =
      let few = few_out ready in
      record {
        points_small = omega (arith, ready.bounded.points_most);
        zones_small = omega (arith, ready.bounded.zones_most);
        out_small = omega arith;
        verdict_small = verdict_small (named t p);
        entries_few = omega (arith, plan_entries t p ready.bounded.laid);
        entries_small = entry_small;
        blocked_few = omega (arith, named_most t p ready.bounded.laid);
        blocked_small = λ c m. out_small (named_out t p ready.bounded.laid m);
      }

-- so every page fits
pub page_fits : (b : List ℕ) → Bytes b → length (page_of b) ≤ PAGE
page_fits b small = page_of_fits b (λ none. small_page (ready_said b small none))

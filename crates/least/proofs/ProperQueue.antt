-- What every queue of the search has, finished or not: as many words as places found from, words below n and none twice, and each but the first found from an earlier place.
-- It holds of the first queue and a new word at the end keeps it; a new word changes nothing that stands in the queue already.
use Prim.Native.Nat.{ℕ, zero, suc, ◌≤◌, ◌<◌}
use mathlib.Core.Path.{◌≡◌, refl, sym, ◌∙◌, ap}
use mathlib.Core.List.Memᴰ
use mathlib.Core.Bool.{false}
use native.Mathlib.Omega.{arith}
use lib.ListN.{length}
use Rattle.model.proofs.AscendingLaws.{NoRepeats}
use Rattle.model.proofs.PlaceLaws.{mem_get_or}
use Rattle.least.specs.Queue.{Queue, in_queue}
use Rattle.least.proofs.RepeatLaws.{appended_no_repeats}
use Rattle.least.proofs.QueueLaws.{size, word_at, from_at, start_queue, added, not_in_place, length_appended, size_added, word_old, from_old, added_places}

pub record Proper (n : ℕ) (q : Queue) : Type 0 where
  pub even : length q.froms ≡ size q
  pub begun : 0 < size q
  pub lower : (j : ℕ) → j < size q → word_at q j < n
  pub different : NoRepeats q.words
  -- so walking back ends
  pub falls : (j : ℕ) → 0 < j → j < size q → from_at q j < j

pub proper_start : (n w : ℕ) → w < n → Proper n (start_queue w)
proper_start n w b = record {
  even = refl;
  begun = omega arith;
  lower = go;
  different = (Memᴰ.not-nil, tt);
  falls = λ j z h. absurd (omega arith);
}
  where
    go : (j : ℕ) → j < 1 → word_at (start_queue w) j < n
    go zero h = b
    go (suc j) h = absurd (omega arith)

module _ {n : ℕ} {q : Queue} (p : Proper n q) where
  pub added_proper : (i v : ℕ) → i < size q → v < n → in_queue q v ≡ false → Proper n (added i q v)
  added_proper i v b c e = record {
    even = length_appended q.froms i ∙ ap suc p.even ∙ sym (size_added i q v);
    begun = rw (size_added i q v) (omega arith);
    lower = added_places i q v p.even (λ j w f. w < n) p.lower c;
    different = appended_no_repeats q.words v p.different (λ m. let (j, h, r) = mem_get_or 0 m in not_in_place q v e j h r);
    falls = λ j z h. added_places i q v p.even (λ j w f. 0 < j → f < j) (λ j h z. p.falls j z h) (λ z. b) j h z;
  }

-- r is q with nothing changed and perhaps more at its end
pub record Extends (q r : Queue) : Type 0 where
  pub longer : size q ≤ size r
  pub same_word : (j : ℕ) → j < size q → word_at r j ≡ word_at q j
  pub same_from : (j : ℕ) → j < size q → from_at r j ≡ from_at q j

pub extends_same : (q : Queue) → Extends q q
extends_same q = record { longer = omega arith; same_word = λ j h. refl; same_from = λ j h. refl }

pub extends_twice : {q r s : Queue} → Extends q r → Extends r s → Extends q s
extends_twice {q} {r} {s} g h = record {
  longer = omega arith;
  same_word = λ j b. h.same_word j (omega arith) ∙ g.same_word j b;
  same_from = λ j b. h.same_from j (omega arith) ∙ g.same_from j b;
}

pub extends_added : (i : ℕ) (q : Queue) (v : ℕ) → length q.froms ≡ size q → Extends q (added i q v)
extends_added i q v even = record {
  longer = rw (size_added i q v) (omega arith);
  same_word = word_old i q v;
  same_from = from_old i q v even;
}

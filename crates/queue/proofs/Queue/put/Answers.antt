-- `put` meets its contract: a word stored in the array is a number stored in each of the two lists.
use native.Mathlib.Omega.{arith}
use Rattle.queue.proofs.InCode.{words_length, word_stored, from_stored}
use Rattle.queue.proofs.Queue.put.Goals as goal

pub offset_bounds-self-place : goal.offset_bounds-self-place
offset_bounds-self-place g c = omega (arith, words_length c.args.self.now.found)

pub bounds-self-place : goal.bounds-self-place
bounds-self-place g c = omega (arith, words_length c.args.self.now.found)

pub returns-clause-words : goal.returns-clause-words
returns-clause-words g c = word_stored _ _ _ _

pub returns-clause-froms : goal.returns-clause-froms
returns-clause-froms g c = from_stored _ _ _ _

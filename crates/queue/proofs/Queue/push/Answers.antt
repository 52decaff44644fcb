-- `push` meets its contract: a word stored in the array is a number stored in each of the two lists.
use native.Mathlib.Omega.{arith}
use Rattle.queue.proofs.InCode.{words_length, word_stored, from_stored}
use Rattle.queue.proofs.Queue.push.Goals as goal

pub offset_bounds-self-self : goal.offset_bounds-self-self
offset_bounds-self-self g c = omega (arith, words_length c.args.self.now.found)

pub bounds-self-self : goal.bounds-self-self
bounds-self-self g c = omega (arith, words_length c.args.self.now.found)

pub overflow_add-self : goal.overflow_add-self
overflow_add-self g c = omega (arith, words_length c.args.self.now.found)

pub returns-clause-words : goal.returns-clause-words
returns-clause-words g c = word_stored _ _ _ _

pub returns-clause-froms : goal.returns-clause-froms
returns-clause-froms g c = from_stored _ _ _ _

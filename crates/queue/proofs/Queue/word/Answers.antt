-- `word` meets its contract: its array is as long as the list of its words, and has at each place the word that the list has there.
use native.Mathlib.Omega.{arith}
use Rattle.queue.proofs.InCode.{words_length, word_at}
use Rattle.queue.proofs.Queue.word.Goals as goal

pub offset_bounds-self-place : goal.offset_bounds-self-place
offset_bounds-self-place g c = omega (arith, words_length c.args.self.now.found)

pub bounds-self-place : goal.bounds-self-place
bounds-self-place g c = omega (arith, words_length c.args.self.now.found)

pub returns : goal.returns
returns g c = word_at _ _

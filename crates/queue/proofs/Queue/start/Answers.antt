-- `start` meets its contract: the first place of each of the two lists is stored.
use native.Mathlib.Omega.{arith}
use Rattle.std.proofs.Common.{rules}
use Rattle.queue.proofs.InCode.{words_length, starts}
use Rattle.queue.proofs.Queue.start.Goals as goal

pub push-requires : goal.push-requires
push-requires g c = (search rules, omega (arith, c.requires, words_length c.args.self.now.found))

pub returns : goal.returns
returns g c = rw (c.push.ensures.words, c.push.ensures.froms, c.push.ensures.longer) (starts c.args.self.now.found g.row.N _ (omega arith) c.requires)

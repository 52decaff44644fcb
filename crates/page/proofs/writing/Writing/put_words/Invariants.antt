-- `Writing::put_words` meets its contract: each word is put after a space.
-- The invariant: what is left to write is the words from here on, each after a space (SpacedPut).
use Rattle.page.specs.Page.{word_text}
use Rattle.page.proofs.SpacedPut.{Spacing}
use Rattle.page.proofs.writing.Writing.put_words.Given as goal

abbrev pub invariant-loop-word : goal.invariant-loop-word
invariant-loop-word l = Spacing word_text l.words l.initial.self l.word-index l.self

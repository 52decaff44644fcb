-- `key_page` meets its contract: the key is drawn into room for every plan and list, and the page of what it answers is written.
-- From the contracts of `exam::key` and `write_answer`, by the laws of KeyPages: what was drawn can be written, and is the page.
use Rattle.std.proofs.Common.{ℕ}
use lib.ListN.{length-replicate}
use Rattle.model.specs.Reading.{Bytes}
use Rattle.exam.specs.Answers.{key_numbers}
use Rattle.text.proofs.KeyPages.{answerable, page_begun}
use Rattle.text.proofs.key_page.Goals.{After-key-answer}
use Rattle.text.proofs.key_page.Goals as goal

-- the bytes that were lent
bytes : (c : After-key-answer) → Bytes c.args.bytes.now
bytes c i = (c.type_inv.bytes i).fits

pub write_answer-requires : goal.write_answer-requires
write_answer-requires c =
    answerable c.args.bytes.now (key_numbers c.key-answer.result) (bytes (goal.at.write_answer-requires c).After-key-answer) (length-replicate {A = ℕ} 18624 0) (length-replicate {A = ℕ} 96 0)
    c.key-answer.ensures.key_promise.given c.key-answer.ensures.summary_value c.key-answer.auto.plan c.key-answer.auto.list c.requires.1

pub returns : goal.returns
returns c =
    page_begun c.args.bytes.now (key_numbers c.key-answer.result) (bytes (goal.at.returns c).After-key-answer) (length-replicate {A = ℕ} 18624 0) (length-replicate {A = ℕ} 96 0)
    c.key-answer.ensures.key_promise.given c.key-answer.ensures.summary_value c.requires.0 c.write_answer.ensures

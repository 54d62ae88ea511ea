use Rattle.stage_lists.proofs.StageWays.{head_word_lem, payload_word_lem}
use Rattle.word.proofs.Tests.{tests}
use Rattle.stage_lists.proofs.stage_io.stage_head.Goals as goal

pub returns-then-w-ne11 : goal.returns-then-w-ne11
returns-then-w-ne11 c = search (head_word_lem, tests)

pub returns-then-w-ge3 : goal.returns-then-w-ge3
returns-then-w-ge3 c = search (head_word_lem, tests)

pub returns-then-w-ne0 : goal.returns-then-w-ne0
returns-then-w-ne0 c = search (head_word_lem, tests)

pub returns-then-n-gt63 : goal.returns-then-n-gt63
returns-then-n-gt63 c = search (head_word_lem, tests)

pub returns-then-l-n : goal.returns-then-l-n
returns-then-l-n c = search (head_word_lem, tests)

pub returns : goal.returns
returns c = search (head_word_lem, payload_word_lem, tests)

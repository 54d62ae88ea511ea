use Rattle.sizes.proofs.SizeWays.{head_word_lem}
use Rattle.word.proofs.Tests.{tests}
use Rattle.sizes.proofs.sizes.sizes_head.Goals as goal

pub returns-then-kind-ne20 : goal.returns-then-kind-ne20
returns-then-kind-ne20 c = search (head_word_lem, tests)

pub returns-then-w-ne0 : goal.returns-then-w-ne0
returns-then-w-ne0 c = search (head_word_lem, tests)

pub returns : goal.returns
returns c = search (head_word_lem, tests)

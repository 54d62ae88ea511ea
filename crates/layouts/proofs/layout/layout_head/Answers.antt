use Rattle.layouts.proofs.LayoutWays.{head_word_lem}
use Rattle.word.proofs.Tests.{tests}
use Rattle.layouts.proofs.layout.layout_head.Goals as goal

pub returns-then-kind-ne17 : goal.returns-then-kind-ne17
returns-then-kind-ne17 c = search (head_word_lem, tests)

pub returns-then-w-gt8 : goal.returns-then-w-gt8
returns-then-w-gt8 c = search (head_word_lem, tests)

pub returns : goal.returns
returns c = search (head_word_lem, tests)

use Rattle.word.proofs.Tests.{tests}
use Rattle.stage_lists.proofs.StageWays.{primitive_word, primitive_false}
use Rattle.stage_lists.proofs.stage_io.primitive_index.Goals as goal

pub returns-in-0 : goal.returns-in-0
returns-in-0 c = search (primitive_word, tests)

pub returns-in-1 : goal.returns-in-1
returns-in-1 c = search primitive_false

pub returns-in_default : goal.returns-in_default
returns-in_default c = search (primitive_word, tests)

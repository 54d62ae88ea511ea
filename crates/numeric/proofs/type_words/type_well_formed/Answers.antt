use Rattle.word.proofs.Tests.{tests}
use Rattle.numeric.specs.TypeWords.{type_well_formed}
use Rattle.numeric.proofs.type_words.type_well_formed.Goals as goal

pub returns-then-w-lt13 : goal.returns-then-w-lt13
unfolding type_well_formed
returns-then-w-lt13 c = search tests

pub returns-else-w-lt13 : goal.returns-else-w-lt13
unfolding type_well_formed
returns-else-w-lt13 c = search tests

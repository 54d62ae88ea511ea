use Rattle.std.proofs.Common.{arith}
use Rattle.std.proofs.lemmas.Bool.Decides.{nat_tests}
use Rattle.numeric.specs.TypeWords.{read_type}
use Rattle.numeric.proofs.type_words.read_type.Goals as goal

pub returns-then-kind-ne13 : goal.returns-then-kind-ne13
unfolding read_type
returns-then-kind-ne13 c = grind (arith, nat_tests)

pub returns : goal.returns
unfolding read_type
returns c = grind (arith, nat_tests)

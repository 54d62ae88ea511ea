use Rattle.std.proofs.Common.{arith}
use Rattle.std.proofs.lemmas.Bool.Decides.{nat_tests}
use Rattle.numeric.specs.Types.{subtype_of}
use Rattle.numeric.proofs.Compared.{kinds_compared}
use Rattle.numeric.proofs.types.NumericType.is_subtype_of.Goals as goal

pub returns-then-self-other : goal.returns-then-self-other
unfolding subtype_of
returns-then-self-other c = grind (arith, nat_tests)

pub returns-then-ne : goal.returns-then-ne
unfolding subtype_of
returns-then-ne c = grind (arith, nat_tests, kinds_compared)

pub returns-then-not-shape_fits : goal.returns-then-not-shape_fits
unfolding subtype_of
returns-then-not-shape_fits c = grind (arith, nat_tests, kinds_compared)

pub returns : goal.returns
unfolding subtype_of
returns c = grind (arith, nat_tests, kinds_compared)

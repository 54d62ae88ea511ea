use Rattle.std.proofs.Common.{arith}
use Rattle.std.proofs.lemmas.Bool.Decides.{nat_tests}
use Rattle.varying.specs.Format.{var_well_formed}
use Rattle.varying.proofs.var_well_formed.Goals as goal

pub returns-then-w-lt6 : goal.returns-then-w-lt6
unfolding var_well_formed
returns-then-w-lt6 c = grind (arith, nat_tests)

pub returns-else-w-lt6 : goal.returns-else-w-lt6
unfolding var_well_formed
returns-else-w-lt6 c = grind (arith, nat_tests)

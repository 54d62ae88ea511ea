use Rattle.std.proofs.Common.{rules, arith}
use Rattle.numeric.specs.Types.{shape_fits}
use Rattle.numeric.proofs.Compared.{size_tag, sizes_compared}
use Rattle.numeric.proofs.types.shape_fits.Goals as goal

pub returns-in-Scalar-Scalar : goal.returns-in-Scalar-Scalar
unfolding shape_fits
returns-in-Scalar-Scalar c = search rules

pub returns-in-Vector-Vector : goal.returns-in-Vector-Vector
unfolding shape_fits
returns-in-Vector-Vector c = grind (arith, size_tag)

pub returns-then-eq : goal.returns-then-eq
unfolding shape_fits
returns-then-eq c = grind (arith, sizes_compared)

pub returns-else-eq : goal.returns-else-eq
unfolding shape_fits
returns-else-eq c = grind (arith, sizes_compared)

pub returns-in_default : goal.returns-in_default
unfolding shape_fits
returns-in_default c = search rules

pub returns-in_default-2 : goal.returns-in_default-2
unfolding shape_fits
returns-in_default-2 c = search rules

pub returns-in_default-3 : goal.returns-in_default-3
unfolding shape_fits
returns-in_default-3 c = search rules

use Rattle.std.proofs.Common.{arith}
use Rattle.std.proofs.lemmas.Bool.Decides.{nat_tests}
use Rattle.formats.specs.Formats.{float_vertex_format, vertex_format}
use Rattle.formats.proofs.formats.from_vertex_format.Goals as goal

pub returns-in_default : goal.returns-in_default
unfolding vertex_format float_vertex_format
returns-in_default c = grind (arith, nat_tests)

pub returns : goal.returns
unfolding vertex_format float_vertex_format
returns c = grind (arith, nat_tests)

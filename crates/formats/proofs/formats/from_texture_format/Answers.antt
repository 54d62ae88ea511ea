use Rattle.std.proofs.Common.{arith}
use Rattle.std.proofs.lemmas.Bool.Decides.{nat_tests}
use Rattle.formats.specs.Formats.{other_texture_format, texture_format}
use Rattle.formats.proofs.formats.from_texture_format.Goals as goal

pub returns-in-43-to-50 : goal.returns-in-43-to-50
unfolding texture_format other_texture_format
returns-in-43-to-50 c = grind (arith, nat_tests)

pub returns-in_default : goal.returns-in_default
unfolding texture_format other_texture_format
returns-in_default c = grind (arith, nat_tests)

pub returns : goal.returns
unfolding texture_format other_texture_format
returns c = grind (arith, nat_tests)

use Rattle.std.proofs.Common.{arith}
use Rattle.bindings.proofs.CodeLaws.{least_fits}
use Rattle.bindings.proofs.binding_codes.least_word.Goals as goal

pub size_word-requires : goal.size_word-requires
size_word-requires c = omega (arith, least_fits)

use Rattle.std.proofs.Common.{arith}
use Rattle.bindings.proofs.CodeLaws.{code_fits}
use Rattle.bindings.proofs.binding_codes.binding_word.Goals as goal

pub overflow_add-result : goal.overflow_add-result
overflow_add-result c = omega (arith, code_fits)

pub overflow_cast-result : goal.overflow_cast-result
overflow_cast-result c = omega (arith, code_fits)

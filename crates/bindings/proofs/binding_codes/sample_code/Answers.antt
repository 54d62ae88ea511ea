use Rattle.bindings.proofs.CodeLaws.{float_code}
use Rattle.word.proofs.Tests.{tests}
use Rattle.bindings.proofs.binding_codes.sample_code.Goals as goal

pub returns-in-Float-true-clause-meaning : goal.returns-in-Float-true-clause-meaning
returns-in-Float-true-clause-meaning c = search (float_code, tests)

pub returns-in-Float-false-clause-meaning : goal.returns-in-Float-false-clause-meaning
returns-in-Float-false-clause-meaning c = search (float_code, tests)

use Rattle.varying.proofs.Ways.{payload_kind}
use Rattle.word.proofs.Tests.{tests}
use Rattle.varying.proofs.payload_well_formed.Goals as goal

pub returns-then-kind-ne9 : goal.returns-then-kind-ne9
returns-then-kind-ne9 c = search (payload_kind, tests)

pub returns-then-w-eq1 : goal.returns-then-w-eq1
returns-then-w-eq1 c = search (payload_kind, tests)

pub returns : goal.returns
returns c = search (payload_kind, tests)

use Rattle.varying.specs.Format.{payload_of}
use Rattle.word.proofs.Tests.{tests}
use Rattle.varying.proofs.payload_of.Goals as goal

pub returns-then-w-eq1 : goal.returns-then-w-eq1
unfolding payload_of
returns-then-w-eq1 c = search tests

pub returns : goal.returns
unfolding payload_of
returns c = search tests

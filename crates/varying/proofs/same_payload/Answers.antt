use Rattle.std.proofs.Common.{rules}
use Rattle.varying.specs.Rules.{same_payload}
use Rattle.varying.proofs.same_payload.Goals as goal

pub returns : goal.returns
unfolding same_payload
returns c = search rules

use Rattle.std.proofs.Common.{rules}
use Rattle.varying.specs.Format.{var_of}
use Rattle.varying.proofs.var_of.Goals as goal

pub returns : goal.returns
unfolding var_of
returns c = search rules

use Rattle.layouts.proofs.BitWays.{bit_is, bit_small}
use Rattle.layouts.proofs.visibility.stage_bit.Goals as goal

pub returns-clause-value : goal.returns-clause-value
returns-clause-value c = search bit_is

pub returns-clause-upper_bound : goal.returns-clause-upper_bound
returns-clause-upper_bound c = search bit_small

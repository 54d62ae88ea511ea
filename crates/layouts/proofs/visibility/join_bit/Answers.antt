use Rattle.layouts.proofs.BitWays.{join_seen, join_new}
use Rattle.layouts.proofs.visibility.join_bit.Goals as goal

pub returns-then-sees-clause-value : goal.returns-then-sees-clause-value
returns-then-sees-clause-value c = search join_seen

pub returns-clause-value : goal.returns-clause-value
returns-clause-value c = search join_new

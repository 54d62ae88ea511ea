use Rattle.entry_check.proofs.CheckSteps.{steps}
use Rattle.entry_check.proofs.check_entry.varying_lists_next.Goals as goal

pub returns-in_err-outputs-clause-rest : goal.returns-in_err-outputs-clause-rest
returns-in_err-outputs-clause-rest c = search (steps, c.in_err-outputs.ensures.rest)

pub returns-clause-rest : goal.returns-clause-rest
returns-clause-rest c = search (steps, c.in_ok-outputs.ensures.rest)

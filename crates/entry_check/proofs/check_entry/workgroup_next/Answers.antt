use Rattle.entry_check.proofs.CheckWalks.{workgroup_is}
use Rattle.entry_check.proofs.check_entry.workgroup_next.Goals as goal

pub returns-clause-rest : goal.returns-clause-rest
returns-clause-rest c = search workgroup_is

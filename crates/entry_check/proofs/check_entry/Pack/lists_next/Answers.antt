use Rattle.entry_check.proofs.CheckSteps.{none_behind}
use Rattle.entry_check.proofs.CheckPairs.{lists_stop, pairs_stop, lists_go}
use Rattle.entry_check.proofs.check_entry.Pack.lists_next.Goals as goal

pub returns-in_err-pairs-clause-rest : goal.returns-in_err-pairs-clause-rest
returns-in_err-pairs-clause-rest c = search (none_behind, lists_stop, c.in_err-pairs.ensures.rest)

pub returns-in_err-inputs-clause-rest : goal.returns-in_err-inputs-clause-rest
returns-in_err-inputs-clause-rest c = search (none_behind, pairs_stop, c.in_ok-pairs.ensures.rest, c.in_ok-pairs.ensures.listed, c.in_err-inputs.ensures.rest)

pub returns-clause-rest : goal.returns-clause-rest
returns-clause-rest c = search (lists_go, c.in_ok-pairs.ensures.rest, c.in_ok-pairs.ensures.listed, c.in_ok-inputs.ensures.rest)

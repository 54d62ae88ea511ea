use Rattle.entry_check.proofs.CheckSteps.{none_behind}
use Rattle.pack_check.proofs.CheckPack.{entries_stop, entries_twice, entries_go}
use Rattle.pack_check.proofs.check_pack.entries_next.Goals as goal

pub returns-in_err-end-clause-rest : goal.returns-in_err-end-clause-rest
returns-in_err-end-clause-rest c = search (none_behind, entries_stop, c.in_err-end.ensures.rest)

pub returns-then-not-names_distinct-clause-rest : goal.returns-then-not-names_distinct-clause-rest
returns-then-not-names_distinct-clause-rest c = search (entries_twice, c.in_ok-end.ensures.rest, c.in_ok-end.ensures.headed)

pub returns-clause-rest : goal.returns-clause-rest
returns-clause-rest c = search (entries_go, c.in_ok-end.ensures.rest, c.in_ok-end.ensures.headed)

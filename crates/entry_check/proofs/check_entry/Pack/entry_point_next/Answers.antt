use Rattle.interface.specs.Format.{head_well_formed}
use Rattle.entry_check.proofs.CheckSteps.{steps, word_in}
use Rattle.entry_check.proofs.CheckWalks.{entry_is}
use Rattle.entry_check.proofs.check_entry.Pack.entry_point_next.Goals as goal

pub returns-then-not-head_well_formed-clause-rest : goal.returns-then-not-head_well_formed-clause-rest
returns-then-not-head_well_formed-clause-rest c = search (entry_is, steps)

pub name_next-requires : goal.name_next-requires
name_next-requires c = search (word_in head_well_formed)

pub returns-in_err-workgroup-clause-rest : goal.returns-in_err-workgroup-clause-rest
returns-in_err-workgroup-clause-rest c = search (entry_is, steps, c.in_err-workgroup.ensures.rest)

pub returns-in_err-payload-clause-rest : goal.returns-in_err-payload-clause-rest
returns-in_err-payload-clause-rest c = search (entry_is, steps, c.in_ok-workgroup.ensures.rest, c.in_err-payload.ensures.rest)

pub returns-clause-rest : goal.returns-clause-rest
returns-clause-rest c = search (entry_is, steps, c.in_ok-workgroup.ensures.rest, c.in_ok-payload.ensures.rest)

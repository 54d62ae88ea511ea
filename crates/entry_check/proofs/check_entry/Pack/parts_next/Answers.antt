use Rattle.varying.specs.Format.{payload_well_formed}
use Rattle.interface.specs.Format.{counts_well_formed}
use Rattle.entry_check.proofs.CheckSteps.{steps, word_in}
use Rattle.entry_check.proofs.CheckWalks.{parts_are, payload_zero}
use Rattle.entry_check.proofs.check_entry.Pack.parts_next.Goals as goal

pub returns-then-not-payload_well_formed-clause-rest : goal.returns-then-not-payload_well_formed-clause-rest
returns-then-not-payload_well_formed-clause-rest c = search (parts_are, steps)

pub mesh_next-requires : goal.mesh_next-requires
mesh_next-requires c = search (word_in payload_well_formed, payload_zero)

pub returns-in_err-counts-clause-rest : goal.returns-in_err-counts-clause-rest
returns-in_err-counts-clause-rest c = search (parts_are, steps, payload_zero, c.in_err-counts.ensures.rest)

pub returns-then-not-counts_well_formed-clause-rest : goal.returns-then-not-counts_well_formed-clause-rest
returns-then-not-counts_well_formed-clause-rest c = search (parts_are, steps, payload_zero, c.in_ok-counts.ensures.rest)

pub lists_next-requires : goal.lists_next-requires
lists_next-requires c = search (word_in counts_well_formed)

pub returns-clause-rest : goal.returns-clause-rest
returns-clause-rest c = search (parts_are, steps, payload_zero, c.in_ok-counts.ensures.rest)

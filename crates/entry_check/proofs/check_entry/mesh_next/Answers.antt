use Rattle.interface.specs.Format.{topology_well_formed}
use Rattle.entry_check.proofs.CheckSteps.{steps, word_in}
use Rattle.entry_check.proofs.CheckWalks.{mesh_absent, mesh_present}
use Rattle.entry_check.proofs.check_entry.mesh_next.Goals as goal

pub returns-then-not-marked-clause-rest : goal.returns-then-not-marked-clause-rest
returns-then-not-marked-clause-rest c = search mesh_absent

pub returns-in_err-topology-clause-rest : goal.returns-in_err-topology-clause-rest
returns-in_err-topology-clause-rest c = search (mesh_present, steps, c.in_err-topology.ensures.rest)

pub returns-then-not-topology_well_formed-clause-rest : goal.returns-then-not-topology_well_formed-clause-rest
returns-then-not-topology_well_formed-clause-rest c = search (mesh_present, steps, c.in_ok-topology.ensures.rest)

pub returns-clause-rest : goal.returns-clause-rest
returns-clause-rest c = search (mesh_present, steps, c.in_ok-topology.ensures.rest)

pub returns-clause-end : goal.returns-clause-end
returns-clause-end c = search (word_in topology_well_formed)

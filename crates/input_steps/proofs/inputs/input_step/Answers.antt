use Rattle.std.proofs.Common.{rules}
use Rattle.input_steps.proofs.InputLaws.{step_built_in, step_local}
use Rattle.input_steps.proofs.inputs.input_step.Goals as goal

pub returns-then-not-location_well_formed-clause-answer : goal.returns-then-not-location_well_formed-clause-answer
returns-then-not-location_well_formed-clause-answer c = search (rules, step_built_in)

pub returns-then-not-location_well_formed-clause-walk : goal.returns-then-not-location_well_formed-clause-walk
returns-then-not-location_well_formed-clause-walk c = search (rules, step_built_in)

pub returns-in-Err-clause-answer : goal.returns-in-Err-clause-answer
returns-in-Err-clause-answer c = search (rules, step_local)

pub returns-in-Err-clause-walk : goal.returns-in-Err-clause-walk
returns-in-Err-clause-walk c = search (rules, step_local)

pub returns-clause-answer : goal.returns-clause-answer
returns-clause-answer c = search (rules, step_local)

pub returns-clause-walk : goal.returns-clause-walk
returns-clause-walk c = search (rules, step_local)

use Rattle.std.proofs.lemmas.Result.{err_from_is_err_and}
use Rattle.stage.proofs.CheckLaws.{resources_below, resources_derived, resources_provided, stopped_at, stopped_nowhere}
use Rattle.stage.proofs.check.check_resources.Goals as goal

pub derive_steps-requires-clause-listed_below : goal.derive_steps-requires-clause-listed_below
derive_steps-requires-clause-listed_below c = search resources_below

pub returns-in_err-derive_steps-clause-state_after : goal.returns-in_err-derive_steps-clause-state_after
returns-in_err-derive_steps-clause-state_after c =
    let p = err_from_is_err_and c.from_residual.result c.from_residual.ensures.1 in
    rw p.1 (search (resources_derived, stopped_at, c.in_err-derive_steps.was, p.2))

pub returns-then-derived-clause-state_after : goal.returns-then-derived-clause-state_after
returns-then-derived-clause-state_after c = search (resources_derived, stopped_nowhere, c.in_ok-derive_steps.was)

pub provide_steps-requires-clause-listed_below : goal.provide_steps-requires-clause-listed_below
provide_steps-requires-clause-listed_below c = search resources_below

pub returns-in_err-provide_steps-clause-state_after : goal.returns-in_err-provide_steps-clause-state_after
returns-in_err-provide_steps-clause-state_after c =
    let p = err_from_is_err_and c.from_residual-in_err-provide_steps.result c.from_residual-in_err-provide_steps.ensures.1 in
    rw p.1 (search (resources_provided, stopped_at, c.in_err-provide_steps.was, p.2))

pub returns-clause-state_after : goal.returns-clause-state_after
returns-clause-state_after c = search (resources_provided, stopped_nowhere, c.in_ok-provide_steps.was)

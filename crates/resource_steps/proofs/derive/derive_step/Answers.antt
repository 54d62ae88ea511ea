use Rattle.resource_steps.proofs.DeriveLaws.{derive_placed, derived_words, within_groups}
use Rattle.resource_steps.proofs.derive.derive_step.Goals as goal

pub invariant_of-place_step : goal.invariant_of-place_step
invariant_of-place_step c =
    let t = derived_words _ _ _ _ _ c.args.words.encodable c.in-Ok.ensures c.derived_least-least.ensures in
    record { encodable = t.encodable; type_word = t.type_word; least_size = t.least_size }

pub place_step-requires-clause-group_in_bounds : goal.place_step-requires-clause-group_in_bounds
place_step-requires-clause-group_in_bounds c = search within_groups

pub returns-in-Ok-clause-layout_after : goal.returns-in-Ok-clause-layout_after
returns-in-Ok-clause-layout_after c = search (derive_placed, c.in-Ok.ensures)

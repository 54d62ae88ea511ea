use Rattle.resource_steps.proofs.DeriveLaws.{type_words, type_differs, type_by_least}
use Rattle.resource_steps.proofs.derive.same_type.Goals as goal

pub returns-then-entry_type-ty : goal.returns-then-entry_type-ty
returns-then-entry_type-ty c = search (type_by_least, type_words c.args.ty)

pub returns-else-entry_type-ty : goal.returns-else-entry_type-ty
returns-else-entry_type-ty c = search (type_differs, type_words c.args.ty)

use Rattle.resource_steps.proofs.DeriveLaws.{derive_nth}
use Rattle.resource_steps.proofs.derive.derive_resource.Goals as goal

pub returns-clause-layout_after : goal.returns-clause-layout_after
returns-clause-layout_after c = search derive_nth

use Rattle.resource_steps.proofs.ResourceWalk.{below_here, below_rest}
use Rattle.resource_steps.proofs.DeriveLaws.{derive_refused, derive_onward, derive_done}
use borrow.Author.Rules.{rules}
use Rattle.resource_steps.proofs.derive.derive_steps.Goals as goal

pub derive_resource-requires-clause-i_in_bounds : goal.derive_resource-requires-clause-i_in_bounds
derive_resource-requires-clause-i_in_bounds c = search below_here

pub returns-in-Err-clause-layout_after : goal.returns-in-Err-clause-layout_after
returns-in-Err-clause-layout_after c = search derive_refused

pub loop-passed-preserved : goal.loop-passed-preserved
loop-passed-preserved c = (search rules, search below_rest, search derive_onward)

pub returns-clause-layout_after : goal.returns-clause-layout_after
returns-clause-layout_after c = search derive_done

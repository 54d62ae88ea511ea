use Rattle.resource_steps.proofs.ResourceWalk.{below_here, below_rest}
use Rattle.resource_steps.proofs.NoteLaws.{notes_refused, notes_onward, notes_done}
use Rattle.resource_steps.proofs.ProvideLaws.{provide_refused, provide_onward, provide_done}
use borrow.Author.Rules.{rules}
use Rattle.resource_steps.proofs.provide.provide_steps.Goals as goal

pub provide_step-requires-clause-i_in_bounds : goal.provide_step-requires-clause-i_in_bounds
provide_step-requires-clause-i_in_bounds c = search below_here

pub returns-in-Err-clause-sizes_after : goal.returns-in-Err-clause-sizes_after
returns-in-Err-clause-sizes_after c = search provide_refused

pub returns-in-Err-clause-entries_after : goal.returns-in-Err-clause-entries_after
returns-in-Err-clause-entries_after c = search notes_refused

pub loop-passed-preserved : goal.loop-passed-preserved
loop-passed-preserved c = (search rules, search below_rest, search provide_onward, search notes_onward)

pub returns-clause-sizes_after : goal.returns-clause-sizes_after
returns-clause-sizes_after c = search provide_done

pub returns-clause-entries_after : goal.returns-clause-entries_after
returns-clause-entries_after c = search notes_done

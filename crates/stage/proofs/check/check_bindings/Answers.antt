use borrow.Author.Rules.{rules}
use Rattle.stage.proofs.CheckLaws.{bindings_refused, bindings_went}
use Rattle.stage.proofs.check.check_bindings.Goals as goal

pub returns-in_err-check_resources-clause-state_after : goal.returns-in_err-check_resources-clause-state_after
returns-in_err-check_resources-clause-state_after c = search (rules, bindings_refused, c.in_err-check_resources.was)

pub returns-clause-state_after : goal.returns-clause-state_after
returns-clause-state_after c = search (bindings_went, c.in_ok-check_resources.was)

use Rattle.std.proofs.Common.{rules}
use Rattle.stage.proofs.RunLaws.{body_refused, body_went}
use Rattle.stage.proofs.check.run_body.Goals as goal

pub returns-in_err-check_bindings : goal.returns-in_err-check_bindings
returns-in_err-check_bindings c = search (rules, body_refused, c.in_err-check_bindings.was, c.request_of-request.ensures)

pub returns : goal.returns
returns c = search (rules, body_went, c.in_ok-check_bindings.was)

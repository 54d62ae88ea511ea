use Rattle.report.proofs.Writing.{line_put}
use Rattle.report.proofs.text.push_line.Goals as goal

pub returns-clause-text_after : goal.returns-clause-text_after
returns-clause-text_after c = search line_put

use Rattle.report.proofs.Writing.{number_put}
use Rattle.report.proofs.text.push_number.Goals as goal

pub returns-clause-text_after : goal.returns-clause-text_after
returns-clause-text_after c = search number_put

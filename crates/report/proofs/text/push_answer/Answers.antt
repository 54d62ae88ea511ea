use Rattle.report.proofs.Writing.{answer_put}
use Rattle.report.proofs.text.push_answer.Goals as goal

pub returns-clause-text_after : goal.returns-clause-text_after
returns-clause-text_after c = search answer_put

use Rattle.report.proofs.Running.{stage_read}
use Rattle.report.proofs.run.stage_of.Goals as goal

pub returns : goal.returns
returns c = search stage_read

use Rattle.stage.proofs.CheckLaws.{request_read}
use Rattle.stage.proofs.check.request_of.Goals as goal

pub returns : goal.returns
returns c = search request_read

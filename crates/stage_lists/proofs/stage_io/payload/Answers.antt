use Rattle.stage_lists.proofs.StageWays.{payload_decoded}
use Rattle.stage_lists.proofs.stage_io.payload.Goals as goal

pub returns : goal.returns
returns c = search payload_decoded

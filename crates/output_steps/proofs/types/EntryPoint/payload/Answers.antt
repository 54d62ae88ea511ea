use Rattle.output_steps.proofs.OutputLaws.{payload_there}
use Rattle.output_steps.proofs.types.EntryPoint.payload.Goals as goal

pub returns : goal.returns
returns c = search payload_there

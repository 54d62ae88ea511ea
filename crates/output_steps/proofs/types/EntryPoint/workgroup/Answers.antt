use Rattle.output_steps.proofs.OutputLaws.{workgroup_there}
use Rattle.output_steps.proofs.types.EntryPoint.workgroup.Goals as goal

pub returns : goal.returns
returns c = search workgroup_there

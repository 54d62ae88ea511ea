use Rattle.output_steps.proofs.OutputLaws.{mesh_absent, mesh_there}
use Rattle.output_steps.proofs.types.EntryPoint.mesh.Goals as goal

pub returns-then-pack-self-ne1 : goal.returns-then-pack-self-ne1
returns-then-pack-self-ne1 c = search mesh_absent

pub returns : goal.returns
returns c = search mesh_there

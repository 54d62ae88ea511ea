use Rattle.std.proofs.Common.{rules}
use Rattle.output_steps.specs.Outputs.{slots_step}
use Rattle.output_steps.proofs.OutputLaws.{vertex_as, summed_read}
use Rattle.output_steps.proofs.outputs.slots_step.Goals as goal

pub vertex_outputs-requires : goal.vertex_outputs-requires
vertex_outputs-requires c = (search (rules, summed_read), search rules)

pub returns-in-Vertex : goal.returns-in-Vertex
unfolding slots_step
returns-in-Vertex c = search (rules, vertex_as)

use Rattle.std.proofs.Common.{rules}
use Rattle.output_steps.proofs.OutputLaws.{vertex_taken, vertex_clipped, vertex_location_lem, vertex_count_lem}
use Rattle.output_steps.proofs.outputs.vertex_outputs.Goals as goal

pub returns-then-limit-taken : goal.returns-then-limit-taken
returns-then-limit-taken c = search (rules, vertex_taken)

pub returns-then-limit-clip : goal.returns-then-limit-clip
returns-then-limit-clip c = search (rules, vertex_clipped)

pub returns-then-limit-clip-2 : goal.returns-then-limit-clip-2
returns-then-limit-clip-2 c = search (rules, vertex_location_lem)

pub returns : goal.returns
returns c = search (rules, vertex_count_lem)

use Rattle.input_steps.proofs.InputLaws.{vertex_kind, vertex_primitive, vertex_good}
use Rattle.input_steps.proofs.inputs.vertex_input.Goals as goal

pub returns-then-w-provided : goal.returns-then-w-provided
returns-then-w-provided c = search vertex_kind

pub returns-then-w-eq1 : goal.returns-then-w-eq1
returns-then-w-eq1 c = search vertex_primitive

pub returns : goal.returns
returns c = search vertex_good

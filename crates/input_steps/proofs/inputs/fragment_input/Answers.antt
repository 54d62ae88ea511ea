use Rattle.input_steps.proofs.InputLaws.{fragment_same}
use Rattle.input_steps.proofs.inputs.fragment_input.Goals as goal

pub returns-then-w-provided : goal.returns-then-w-provided
returns-then-w-provided c = search fragment_same

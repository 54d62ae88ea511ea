use Rattle.output_steps.proofs.OutputLaws.{inputs_end_lem, inputs_read}
use Rattle.output_steps.proofs.types.EntryPoint.inputs.Goals as goal

pub invariant_of-result-clause-inside : goal.invariant_of-result-clause-inside
invariant_of-result-clause-inside c = search inputs_end_lem

pub returns : goal.returns
returns c = search inputs_read

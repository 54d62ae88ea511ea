use Rattle.output_steps.proofs.OutputLaws.{outputs_end_lem, outputs_read}
use Rattle.output_steps.proofs.types.EntryPoint.outputs.Goals as goal

pub invariant_of-result-clause-inside : goal.invariant_of-result-clause-inside
invariant_of-result-clause-inside c = search outputs_end_lem

pub returns : goal.returns
returns c = search outputs_read

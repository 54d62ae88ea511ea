use Rattle.output_steps.proofs.OutputLaws.{outputs_end_lem, summed_here}
use Rattle.output_steps.proofs.types.EntryPoint.new.Goals as goal

pub invariant_of-outputs-clause-inside : goal.invariant_of-outputs-clause-inside
invariant_of-outputs-clause-inside c = search outputs_end_lem

pub invariant_of-result-clause-summed : goal.invariant_of-result-clause-summed
invariant_of-result-clause-summed c = search summed_here

use native.Mathlib.Nat.{sub-zero, sub-add-eq, sub-eq-zero_of_le}
use Rattle.std.proofs.Common.{refl}
use Rattle.input_steps.proofs.VaryingLaws.{ahead}
use Rattle.output_steps.proofs.OutputLaws.{left_some, ahead_by, within_start, within_more, summary_start, summary_onward, summary_ended}
use Rattle.output_steps.proofs.outputs.summary.Goals as goal

pub loop-i-init : goal.loop-i-init
loop-i-init c = rw (sub-zero c.args.varyings.now.n) ((search ahead, search within_start, summary_start _ _ refl))

pub loop-i-preserved : goal.loop-i-preserved
loop-i-preserved c = rw (sub-add-eq c.args.varyings.now.n c.loop-i._i 1) ((search (ahead_by, left_some, sub-eq-zero_of_le), search (within_more, left_some, sub-eq-zero_of_le), search (summary_onward, left_some, sub-eq-zero_of_le)))

pub returns-clause-value : goal.returns-clause-value
returns-clause-value c = search (summary_ended, sub-eq-zero_of_le)

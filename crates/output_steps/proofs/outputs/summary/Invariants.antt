use Rattle.std.proofs.Common.{◌-◌}
use mathlib.Core.Path.{◌≡◌}
use lib.ListN.{drop}
use Rattle.interface.specs.Inner.Reads.{varyings}
use Rattle.output_steps.specs.Inner.Summary.{summary_of, plus}
use Rattle.input_steps.proofs.VaryingLaws.{Ahead}
use Rattle.output_steps.proofs.OutputLaws.{Within}
use Rattle.output_steps.proofs.outputs.summary.Given as goal

abbrev pub invariant-loop-i : goal.invariant-loop-i
invariant-loop-i l =
    Ahead l.pack (l.n - l._i) l.at × Within l.s (l.n - l._i) × (summary_of (varyings l.n (drop l.varyings.from l.pack)) ≡ plus l.s (summary_of (varyings (l.n - l._i) (drop l.at l.pack))))

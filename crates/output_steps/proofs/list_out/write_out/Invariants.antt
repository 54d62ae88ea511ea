use Rattle.std.proofs.Common.{◌-◌}
use mathlib.Core.Path.{◌≡◌}
use mathlib.Core.Bool.{true}
use lib.ListN.{length, drop, set}
use Rattle.stage_lists.specs.Format.{out_well_formed, decode_stage}
use Rattle.interface.specs.Inner.Reads.{varyings}
use Rattle.input_steps.proofs.VaryingLaws.{Ahead}
use Rattle.output_steps.proofs.ListOutLaws.{handed_all, Roomy}
use Rattle.output_steps.proofs.list_out.write_out.Given as goal

abbrev pub invariant-loop-i : goal.invariant-loop-i
invariant-loop-i l =
    Ahead l.pack (l.n - l._i) l.at × (length l.out ≡ length l.initial.out) × (out_well_formed (set l.out 0 l.head) ≡ true) × Roomy (varyings (l.n - l._i) (drop l.at l.pack)) (decode_stage (set l.out 0 l.head))
    × (handed_all (varyings l.n (drop l.outputs.from l.pack)) (decode_stage (set l.initial.out 0 l.initial.head)) ≡ handed_all (varyings (l.n - l._i) (drop l.at l.pack)) (decode_stage (set l.out 0 l.head)))

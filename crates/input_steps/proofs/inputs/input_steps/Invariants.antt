use Rattle.std.proofs.Common.{◌≡◌, ◌+◌, ◌-◌, ◌^◌, ◌<◌, length, drop}
use Rattle.stage_lists.specs.Format.{decode_stage}
use Rattle.interface.specs.Inner.Parts.{varyings_end}
use Rattle.interface.specs.Inner.Reads.{varyings}
use Rattle.input_steps.specs.Inputs.{input_steps}
use Rattle.input_steps.proofs.inputs.input_steps.Given as goal

abbrev pub invariant-loop-i : goal.invariant-loop-i
invariant-loop-i l =
    (varyings_end l.pack (l.n - l._i) l.at < length l.pack) × (l.walk.locals + (l.n - l._i) < 2 ^ 31)
    × (input_steps l.stage (decode_stage l.inputs.words.now).varyings (varyings l.n (drop l.varyings.from l.pack)) l.initial.walk
    ≡ input_steps l.stage (decode_stage l.inputs.words.now).varyings (varyings (l.n - l._i) (drop l.at l.pack)) l.walk)

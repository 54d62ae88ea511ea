use Rattle.std.proofs.Common.{◌≡◌, ◌-◌, drop}
use Rattle.word.specs.Numbers.{number_of}
use Rattle.interface.specs.Inner.Reads.{varyings}
use Rattle.output_steps.specs.Outputs.{location_uses}
use Rattle.input_steps.proofs.VaryingLaws.{Ahead}
use Rattle.output_steps.proofs.outputs.location_uses.Given as goal

abbrev pub invariant-loop-i : goal.invariant-loop-i
invariant-loop-i l =
    Ahead l.pack (l.n - l._i) l.at
    × (location_uses (number_of l.number) l.past l.limit (varyings l.n (drop l.varyings.from l.pack)) ≡ location_uses (number_of l.number) l.past l.limit (varyings (l.n - l._i) (drop l.at l.pack)))

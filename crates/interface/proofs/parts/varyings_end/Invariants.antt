use Rattle.std.proofs.Common.{◌≡◌, ◌<◌, length}
use Rattle.interface.specs.Inner.Parts.{varyings_end}
use Rattle.interface.proofs.parts.varyings_end.Given as goal

abbrev pub invariant-loop : goal.invariant-loop
invariant-loop l = record { inside : l.at < length l.pack; meaning : l.at ≡ varyings_end l.pack l.counter l.from }

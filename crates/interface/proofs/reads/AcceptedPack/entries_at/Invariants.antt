use Rattle.std.proofs.Common.{◌≡◌, ◌+◌, ◌*◌, ◌≤◌}
use Rattle.interface.specs.Inner.Parts.{end_from, resource_end}
use Rattle.interface.proofs.reads.AcceptedPack.entries_at.Given as goal

abbrev pub invariant-loop : goal.invariant-loop
invariant-loop l = record { early : l.at ≤ 15 + 3 * l.counter; meaning : l.at ≡ end_from (resource_end l.self.words.now) l.counter 15 }

use Rattle.std.proofs.Common.{◌≤◌}
use Rattle.test_packs.proofs.row.Given as goal

abbrev pub invariant-loop-bit : goal.invariant-loop-bit
invariant-loop-bit g l = (l.accepted ≤ l.bit) × (l.damaged ≤ l.bit) × (l.malformed ≤ l.bit)

use Rattle.std.proofs.Common.{◌≡◌, drop}
use Rattle.entry_check.specs.Inner.Walks.{distinct_heads}
use Rattle.entry_check.proofs.check_names.names_distinct.Given as goal

abbrev pub invariant-loop-i : goal.invariant-loop-i
invariant-loop-i l = distinct_heads l.body l.heads ≡ distinct_heads l.body (drop l.i l.heads)

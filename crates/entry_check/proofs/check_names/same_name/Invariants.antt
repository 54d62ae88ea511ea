use Rattle.std.proofs.Common.{◌≡◌, ◌+◌, ◌-◌, ◌*◌, drop}
use Rattle.entry_check.specs.Inner.Walks.{same_name}
use Rattle.entry_check.proofs.check_names.same_name.Given as goal

abbrev pub invariant-loop-i : goal.invariant-loop-i
invariant-loop-i l =
    same_name l.bytes (drop l.from l.body) (drop l.other l.body) ≡ same_name (l.bytes - 4 * l.i) (drop (l.from + l.i) l.body) (drop (l.other + l.i) l.body)

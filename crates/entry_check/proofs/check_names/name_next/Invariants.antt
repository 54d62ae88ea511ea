use Rattle.std.proofs.Common.{◌≡◌, ◌+◌, ◌-◌, ◌*◌, ◌≤◌, length, drop}
use Rattle.word.specs.Parse.{behind}
use Rattle.interface.specs.Format.{read_name}
use Rattle.entry_check.proofs.check_names.name_next.Given as goal

abbrev pub invariant-loop-i : goal.invariant-loop-i
invariant-loop-i l =
    (l.from + l.i ≤ length l.body) × (behind (read_name l.bytes (drop l.from l.body)) ≡ behind (read_name (l.bytes - 4 * l.i) (drop (l.from + l.i) l.body)))

use Rattle.std.proofs.Common.{◌≡◌, ◌+◌, ◌-◌, ◌*◌, ◌<◌, ◌≤◌, length}
use Rattle.interface.specs.Format.{decode, interface_of}
use Rattle.interface.specs.Inner.Parts.{end_from, entry_end}
use Rattle.interface.proofs.ReadsParts.{left_of}
use Rattle.report.specs.Report.{ran, run_entries}
use Rattle.report.proofs.run.Run.entries.Given as goal

abbrev pub invariant-loop : goal.invariant-loop
invariant-loop l =
    (l.end ≤ 16) × (length l.words ≤ 4096) × (length l.self.text.items + 55 * (l.end - l.counter) ≤ length l.initial.self.text.items + 880)
    × (end_from (entry_end l.words) (l.end - l.counter) l.head < length l.words)
    × (run_entries l.words (interface_of (decode l.words)).entries (ran l.initial.self.layout l.initial.self.io l.initial.self.text.items)
    ≡ run_entries l.words (left_of l.words (l.end - l.counter) l.head) (ran l.self.layout l.self.io l.self.text.items))

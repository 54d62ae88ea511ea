use Rattle.type_check.specs.Inner.Notes.{members_reached, onward}
use Rattle.type_check.specs.Inner.Positions.{earlier_of}
use Rattle.type_lists.specs.Format.{read_member}
use Rattle.word.specs.Parse.{several}
use Rattle.std.proofs.Common.{◌≡◌, ◌-◌, ◌≤◌, length, drop}
use Rattle.type_check.proofs.index.members_read.Given as goal

abbrev pub invariant-loop-k : goal.invariant-loop-k
invariant-loop-k l =
    (l.at ≤ length l.earlier.table.words.now) × (l.total.count ≤ 64) × (l.total.words ≤ 128)
    × (members_reached (earlier_of l.earlier.table.words.now l.earlier.count) (several l.count (read_member (earlier_of l.earlier.table.words.now l.earlier.count)) (drop l.from l.earlier.table.words.now))
    ≡ onward l.total (members_reached (earlier_of l.earlier.table.words.now l.earlier.count) (several (l.count - l._k) (read_member (earlier_of l.earlier.table.words.now l.earlier.count)) (drop l.at l.earlier.table.words.now))))

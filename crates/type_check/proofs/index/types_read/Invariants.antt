use Rattle.type_check.specs.Inner.Notes.{Noted}
use Rattle.type_check.specs.Inner.Positions.{earlier_of}
use Rattle.type_lists.specs.Format.{read_types}
use Rattle.word.specs.Parse.{got}
use Rattle.std.proofs.Common.{◌≡◌, ◌≤◌, [], length, drop}
use Rattle.type_check.proofs.index.types_read.Given as goal

abbrev pub invariant-loop-i : goal.invariant-loop-i
invariant-loop-i l =
    (l.at ≤ length l.words) × (length l.notes ≡ 256) × (read_types l.i [] (drop 1 l.words) ≡ got (earlier_of l.words l.i) (drop l.at l.words)) × Noted (earlier_of l.words l.i) l.words l.notes

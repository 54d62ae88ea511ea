use Rattle.std.proofs.Common.{◌≡◌, ◌*◌, length, drop}
use Rattle.interface.specs.Format.{same_bytes}
use Rattle.entry_check.specs.Inner.Walks.{name_of}
use Rattle.entry_points.proofs.names.same_bytes.Given as goal

-- whole words
abbrev pub invariant-loop-i : goal.invariant-loop-i
invariant-loop-i l =
    same_bytes (name_of (length l.name) (drop l.from l.pack)) l.name ≡ same_bytes (drop (4 * l.i) (name_of (length l.name) (drop l.from l.pack))) (drop (4 * l.i) l.name)

-- bytes of the last word
abbrev pub invariant-loop-i-2 : goal.invariant-loop-i-2
invariant-loop-i-2 l =
    same_bytes (name_of (length l.name) (drop l.from l.pack)) l.name ≡ same_bytes (drop l.i (name_of (length l.name) (drop l.from l.pack))) (drop l.i l.name)

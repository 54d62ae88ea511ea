use Rattle.std.proofs.Common.{◌≡◌, ◌-◌, ◌*◌, drop}
use Rattle.layouts.specs.Format.{entry_good}
use Rattle.places.specs.Records.{each}
use Rattle.layouts.proofs.layout.entries_good.Given as goal

abbrev pub invariant-loop-i : goal.invariant-loop-i
invariant-loop-i l = each 4 (entry_good l.groups) l.entries.n l.entries.words.now ≡ each 4 (entry_good l.groups) (l.entries.n - l.i) (drop (4 * l.i) l.entries.words.now)

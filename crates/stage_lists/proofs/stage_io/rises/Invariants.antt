use Rattle.std.proofs.Common.{◌≡◌, ◌-◌, ◌*◌, drop}
use Rattle.stage_lists.specs.Meaning.{rising}
use Rattle.stage_lists.specs.Format.{read_varyings}
use Rattle.stage_lists.proofs.stage_io.rises.Given as goal

abbrev pub invariant-loop-i : goal.invariant-loop-i
invariant-loop-i l = rising (read_varyings l.n l.varyings) ≡ rising (read_varyings (l.n - (l.i - 1)) (drop (2 * (l.i - 1)) l.varyings))

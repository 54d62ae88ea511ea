use Rattle.std.proofs.Common.{◌≡◌, ◌+◌, ◌-◌, ◌*◌, drop}
use Rattle.stage_lists.specs.Format.{read_varyings}
use Rattle.stage_lists.specs.Inner.Found.{location_from}
use Rattle.stage_lists.proofs.stage_io.find_within.Given as goal

abbrev pub invariant-loop-i : goal.invariant-loop-i
invariant-loop-i l =
    location_from l.location (read_varyings l.n (drop 2 l.l)) 3 ≡ location_from l.location (read_varyings (l.n - l.i) (drop (2 + 2 * l.i) l.l)) (3 + 2 * l.i)

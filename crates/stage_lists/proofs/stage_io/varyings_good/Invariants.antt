use Rattle.std.proofs.Common.{◌≡◌, true, ◌-◌, ◌*◌, drop}
use Rattle.varying.specs.Format.{var_well_formed}
use Rattle.places.specs.Records.{each}
use Rattle.stage_lists.specs.Format.{located_good}
use Rattle.stage_lists.proofs.stage_io.varyings_good.Given as goal

abbrev pub invariant-loop-i : goal.invariant-loop-i
invariant-loop-i l = (var_well_formed l.good ≡ true) × (each 2 located_good l.n l.varyings ≡ each 2 located_good (l.n - l.i) (drop (2 * l.i) l.varyings))

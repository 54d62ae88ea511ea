use Rattle.std.proofs.Common.{◌≡◌, ◌-◌, ◌≤◌, true, length, drop}
use Rattle.varying.specs.Format.{var_well_formed}
use Rattle.entry_check.specs.Inner.Walks.{varyings_behind}
use Rattle.entry_check.proofs.check_varyings.varyings_next.Given as goal

abbrev pub invariant-loop : goal.invariant-loop
invariant-loop l =
    (l.at ≤ length l.body) × (4 ≤ l.below) × (l.below ≤ 5) × (varyings_behind l.n l.codes (drop l.from l.body) ≡ varyings_behind (l.n - l.counter) l.below (drop l.at l.body))
    × (var_well_formed l.good ≡ true)

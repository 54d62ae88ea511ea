use Prim.Native.Nat.{◌-◌, ◌≤◌}
use mathlib.Core.Path.{◌≡◌}
use mathlib.Core.List.{◌++◌}
use lib.ListN.{length, take, drop}
use Rattle.word.specs.Parse.{several, from, behind}
use Rattle.bindings.specs.Format.{read_resource}
use Rattle.entry_check.specs.Inner.Walks.{listed, pair_roles}
use Rattle.pack_check.specs.Inner.Records.{Stops}
use Rattle.pack_check.specs.Inner.Positions.{over, positions}
use Rattle.pack_check.proofs.check_pack.resources_next.Given as goal

abbrev pub invariant-loop-i : goal.invariant-loop-i
invariant-loop-i l =
    (l.at ≤ length l.body) × (128 ≤ length l.offsets) × (from (drop l.at l.body) ≡ behind (several l.i read_resource (drop l.from l.body)))
    × (l.roles ≡ pair_roles (listed (several l.i read_resource (drop l.from l.body))) ++ drop l.i l.initial.roles)
    × Stops read_resource l.body l.from l.i l.offsets
    × (over (positions read_resource l.body l.n l.from) l.initial.offsets ≡ take l.i l.offsets ++ over (positions read_resource l.body (l.n - l.i) l.at) (drop l.i l.offsets))

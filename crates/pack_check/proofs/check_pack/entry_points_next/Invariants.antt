use Prim.Native.Nat.{◌-◌, ◌≤◌}
use mathlib.Core.Path.{◌≡◌}
use mathlib.Core.List.{◌++◌}
use lib.ListN.{length, take, drop}
use Rattle.word.specs.Parse.{several, from, behind}
use Rattle.interface.specs.Format.{read_entry_point}
use Rattle.entry_check.specs.Inner.Walks.{listed, pack_resources}
use Rattle.pack_check.specs.Inner.Records.{Headed, Stops}
use Rattle.pack_check.specs.Inner.Positions.{over, positions}
use Rattle.pack_check.proofs.check_pack.entry_points_next.Given as goal

abbrev pub invariant-loop-i : goal.invariant-loop-i
invariant-loop-i l =
    let body = l.pack.body.now in
    let read = read_entry_point (pack_resources l.pack.count body) in
    (l.at ≤ length body) × (16 ≤ length l.heads) × (from (drop l.at body) ≡ behind (several l.i read (drop l.from body)))
    × Headed body (take l.i l.heads) (listed (several l.i read (drop l.from body)))
    × Stops read body l.from l.i l.heads
    × (over (positions read body l.n l.from) l.initial.heads ≡ take l.i l.heads ++ over (positions read body (l.n - l.i) l.at) (drop l.i l.heads))

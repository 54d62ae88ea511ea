use Rattle.std.proofs.Common.{◌≡◌, ◌<◌, drop}
use Rattle.std.specs.Prelude.{IfSome}
use Rattle.interface.specs.Format.{decode, interface_of}
use Rattle.entry_points.specs.Rules.{only_from, only_entry_point}
use Rattle.entry_points.proofs.module.Module.only_entry_point.Given as goal

abbrev pub invariant-loop-position : goal.invariant-loop-position
invariant-loop-position l = record {
  meaning : only_entry_point l.stage (interface_of (decode l.self.pack.now)).entries ≡ only_from l.stage l.only (drop l.position (interface_of (decode l.self.pack.now)).entries) l.position;
  before : IfSome l.only (λ i. i < l.position);
}

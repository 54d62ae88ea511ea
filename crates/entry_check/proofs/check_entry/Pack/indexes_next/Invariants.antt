use Rattle.std.proofs.Common.{◌≡◌, true, take}
use Rattle.std.specs.List.{list_all}
use Rattle.interface.specs.Format.{index_well_formed, contents}
use Rattle.entry_check.specs.Inner.Walks.{roles_of}
use Rattle.entry_check.proofs.check_entry.Pack.indexes_next.Given as goal

abbrev pub invariant-loop-w : goal.invariant-loop-w
invariant-loop-w l =
    (list_all (index_well_formed l.self.count) (take l.w-index l.words) ≡ true)
    × (l.table ≡ roles_of l.self.roles.now (contents (take l.w-index l.words)) l.initial.table)

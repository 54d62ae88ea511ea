use Rattle.std.proofs.Common.{◌≤◌, rules, arith}
use Rattle.entry_check.proofs.CheckSteps.{none_behind}
use Rattle.pack_check.proofs.CheckPack.{resources_long, roles_tabled, records_stop, records_go}
use Rattle.pack_check.proofs.CheckPositions.{resources_some}
use Rattle.pack_check.proofs.CheckTables.{entries_unread, entries_noted_lem}
use Rattle.pack_check.proofs.check_pack.records_next.Goals as goal

pub returns-in_err-entries-clause-rest : goal.returns-in_err-entries-clause-rest
returns-in_err-entries-clause-rest c = search (none_behind, records_stop, c.in_err-entries.ensures.rest)

pub returns-in_err-entries-clause-heads_after : goal.returns-in_err-entries-clause-heads_after
returns-in_err-entries-clause-heads_after c = search (entries_unread, c.in_err-entries.ensures.rest)

pub invariant_of-pack : goal.invariant_of-pack
invariant_of-pack c = record {
  few = search rules;
  counted = search (resources_long, c.in_ok-entries.ensures.rest);
  told = search (roles_tabled, c.in_ok-entries.ensures.rest, c.in_ok-entries.ensures.roles_after);
}

pub entries_next-requires-clause-in_bounds : goal.entries_next-requires-clause-in_bounds
entries_next-requires-clause-in_bounds c =
    (search (rules, resources_some, c.in_ok-entries.ensures.rest, c.in_ok-entries.ensures.end), search c.in_ok-entries.ensures.end, search rules, search rules)

pub returns-clause-entry_stops : goal.returns-clause-entry_stops
returns-clause-entry_stops c =
    let some : 1 ≤ c.in_ok-entries.entries = search (rules, resources_some, c.in_ok-entries.ensures.rest, c.in_ok-entries.ensures.end) in
    grind arith

pub returns-clause-rest : goal.returns-clause-rest
returns-clause-rest c = search (records_go, c.in_ok-entries.ensures.rest)

pub returns-clause-heads_after : goal.returns-clause-heads_after
returns-clause-heads_after c = search (entries_noted_lem, c.in_ok-entries.ensures.rest, c.in_ok-entries.ensures.end)

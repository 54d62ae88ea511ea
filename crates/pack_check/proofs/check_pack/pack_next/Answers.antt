use Rattle.entry_check.proofs.CheckSteps.{none_behind}
use Rattle.pack_check.proofs.CheckPack.{edition_stop, totals_stop, limits_stop, pack_go}
use Rattle.pack_check.proofs.CheckTables.{edition_unwritten, totals_unwritten, limits_unwritten, resources_written, entries_written}
use Rattle.pack_check.proofs.check_pack.pack_next.Goals as goal

pub returns-then-not-edition_well_formed-clause-rest : goal.returns-then-not-edition_well_formed-clause-rest
returns-then-not-edition_well_formed-clause-rest c = search edition_stop

pub returns-then-not-edition_well_formed-clause-offsets_after : goal.returns-then-not-edition_well_formed-clause-offsets_after
returns-then-not-edition_well_formed-clause-offsets_after c = search edition_unwritten

pub returns-then-not-edition_well_formed-clause-heads_after : goal.returns-then-not-edition_well_formed-clause-heads_after
returns-then-not-edition_well_formed-clause-heads_after c = search edition_unwritten

pub returns-then-not-totals_well_formed-clause-rest : goal.returns-then-not-totals_well_formed-clause-rest
returns-then-not-totals_well_formed-clause-rest c = search totals_stop

pub returns-then-not-totals_well_formed-clause-offsets_after : goal.returns-then-not-totals_well_formed-clause-offsets_after
returns-then-not-totals_well_formed-clause-offsets_after c = search totals_unwritten

pub returns-then-not-totals_well_formed-clause-heads_after : goal.returns-then-not-totals_well_formed-clause-heads_after
returns-then-not-totals_well_formed-clause-heads_after c = search totals_unwritten

pub returns-in_err-kinds_next-clause-rest : goal.returns-in_err-kinds_next-clause-rest
returns-in_err-kinds_next-clause-rest c = search (none_behind, limits_stop, c.in_err-kinds_next.ensures.rest)

pub returns-in_err-kinds_next-clause-offsets_after : goal.returns-in_err-kinds_next-clause-offsets_after
returns-in_err-kinds_next-clause-offsets_after c = search (limits_unwritten, c.in_err-kinds_next.ensures.rest)

pub returns-in_err-kinds_next-clause-heads_after : goal.returns-in_err-kinds_next-clause-heads_after
returns-in_err-kinds_next-clause-heads_after c = search (limits_unwritten, c.in_err-kinds_next.ensures.rest)

pub returns-clause-rest : goal.returns-clause-rest
returns-clause-rest c = search (pack_go, c.in_ok-kinds_next.ensures.rest, c.in_ok-kinds_next.ensures.end)

pub returns-clause-offsets_after : goal.returns-clause-offsets_after
returns-clause-offsets_after c = search (resources_written, c.in_ok-kinds_next.ensures.rest)

pub returns-clause-heads_after : goal.returns-clause-heads_after
returns-clause-heads_after c = search (entries_written, c.in_ok-kinds_next.ensures.rest)

use borrow.Author.Rules.{rules}
use Rattle.word.proofs.Rests.{none_read, one_read, one_unread}
use Rattle.entry_check.proofs.CheckSteps.{none_behind}
use Rattle.pack_check.proofs.CheckRecords.{roles_begin, roles_go}
use Rattle.pack_check.proofs.CheckPositions.{stops_none, stops_more, resources_some}
use Rattle.pack_check.proofs.CheckTables.{positions_begin, positions_more, positions_stop, positions_ended}
use Rattle.pack_check.proofs.check_pack.resources_next.Goals as goal

pub loop-i-init : goal.loop-i-init
loop-i-init c = (search rules, search rules, search none_read, search roles_begin, search stops_none, search positions_begin)

pub returns-in_err-next-clause-rest : goal.returns-in_err-next-clause-rest
returns-in_err-next-clause-rest c = search (none_behind, one_unread, c.in_err-next.ensures.rest)

pub returns-in_err-next-clause-offsets_after : goal.returns-in_err-next-clause-offsets_after
returns-in_err-next-clause-offsets_after c = search (positions_stop, c.in_err-next.ensures.rest)

pub loop-i-preserved : goal.loop-i-preserved
loop-i-preserved c = (
  search c.in_ok-next.ensures.end,
  search rules,
  search (one_read, c.in_ok-next.ensures.rest),
  search (roles_go, c.in_ok-next.ensures.rest),
  search (stops_more, resources_some),
  search (positions_more, c.in_ok-next.ensures.rest, c.in_ok-next.ensures.end),
)

pub returns-clause-offsets_after : goal.returns-clause-offsets_after
returns-clause-offsets_after c = search positions_ended

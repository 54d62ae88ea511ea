use Rattle.type_check.proofs.MemberWays.{member_stops, member_there, member_went}
use Rattle.type_check.proofs.index.member_read.Goals as goal

pub returns-in_err-next-clause-reached : goal.returns-in_err-next-clause-reached
returns-in_err-next-clause-reached c = rw c.from_residual.ensures (search (member_stops, c.in_err-next.ensures.position))

pub given_note-note-requires : goal.given_note-note-requires
given_note-note-requires c = search (member_there, c.in_ok-next.ensures.position)

pub returns-clause-reached : goal.returns-clause-reached
returns-clause-reached c = search (member_went, c.in_ok-next.ensures.position)

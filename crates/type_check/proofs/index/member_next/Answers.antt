use Rattle.type_check.proofs.MemberWays.{member_unnamed, element_there, member_unbound, member_bad, member_good}
use Rattle.type_check.proofs.index.member_next.Goals as goal

pub returns-then-not-index_well_formed-clause-position : goal.returns-then-not-index_well_formed-clause-position
returns-then-not-index_well_formed-clause-position c = search member_unnamed

pub returns-in_err-next-clause-position : goal.returns-in_err-next-clause-position
returns-in_err-next-clause-position c = rw c.from_residual.ensures (search (member_unbound, c.in_err-next.ensures.position))

pub binding_good-requires-clause-element : goal.binding_good-requires-clause-element
binding_good-requires-clause-element c = λ k. search element_there

pub returns-then-not-binding_good-clause-position : goal.returns-then-not-binding_good-clause-position
returns-then-not-binding_good-clause-position c = search (member_bad, c.in_ok-next.ensures.position)

pub returns-clause-position : goal.returns-clause-position
returns-clause-position c = search (member_good, c.in_ok-next.ensures.position)

use Rattle.type_check.proofs.Noting.{both_count, both_words}
use Rattle.type_check.proofs.MemberWays.{members_begin, members_stop, members_on, members_done}
use borrow.Author.Rules.{rules}
use Rattle.type_check.proofs.index.members_read.Goals as goal

pub loop-k-init : goal.loop-k-init
loop-k-init c = (search rules, search rules, search rules, search members_begin)

pub returns-in_err-r-clause-reached : goal.returns-in_err-r-clause-reached
returns-in_err-r-clause-reached c = rw c.from_residual.ensures (search (members_stop, c.in_err-r.ensures.reached))

pub loop-k-preserved : goal.loop-k-preserved
loop-k-preserved c = (search (rules, c.in_ok-r.ensures.within), search both_count, search both_words, search (members_on, c.in_ok-r.ensures.reached))

pub returns-clause-reached : goal.returns-clause-reached
returns-clause-reached c = search members_done

use Rattle.type_check.proofs.TypeWays.{struct_stops, struct_went}
use Rattle.type_check.proofs.index.struct_read.Goals as goal

pub returns-in_err-r-clause-reached : goal.returns-in_err-r-clause-reached
returns-in_err-r-clause-reached c = rw c.from_residual.ensures (search (struct_stops, c.in_err-r.ensures.reached))

pub returns-clause-reached : goal.returns-clause-reached
returns-clause-reached c = search (struct_went, c.in_ok-r.ensures.reached)

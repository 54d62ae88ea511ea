use lib.ListN.{length-set}
use native.Mathlib.Omega.{arith}
use Rattle.type_check.proofs.ListWays.{types_begin, none_noted, earlier_length, types_stop, type_inside, types_on, noted_on}
use borrow.Author.Rules.{rules}
use Rattle.type_check.proofs.index.types_read.Goals as goal

pub loop-i-init : goal.loop-i-init
loop-i-init c = (search rules, search rules, search types_begin, search none_noted)

pub invariant_of-earlier-clause-counted : goal.invariant_of-earlier-clause-counted
invariant_of-earlier-clause-counted c = search earlier_length

pub returns-in_err-r-clause-position : goal.returns-in_err-r-clause-position
returns-in_err-r-clause-position c = rw c.from_residual.ensures (search (types_stop, c.in_err-r.ensures.reached))

pub invariant_of-notes : goal.invariant_of-notes
invariant_of-notes c = record { near = search (type_inside, c.in_ok-r.ensures.reached) }

pub loop-i-preserved : goal.loop-i-preserved
loop-i-preserved c = (search (rules, c.in_ok-r.ensures.within), simp length-set (omega arith), search (types_on, c.in_ok-r.ensures.reached), search (noted_on, c.in_ok-r.ensures.reached))

use Rattle.std.proofs.Common.{rules}
use Rattle.type_check.proofs.ClipWays.{element_noted}
use Rattle.populate.proofs.CallWays.{not_whole, binding_bad, binding_well_formed}
use Rattle.populate.proofs.call.populate_bound.Goals as goal

pub returns-then-ne : goal.returns-then-ne
returns-then-ne c = rw c.plain.ensures (search not_whole)

pub binding_good-requires-clause-element : goal.binding_good-requires-clause-element
binding_good-requires-clause-element c = λ k. search element_noted

pub returns-then-not-binding_good : goal.returns-then-not-binding_good
returns-then-not-binding_good c = rw c.plain-then-not-binding_good.ensures (search binding_bad)

pub returns : goal.returns
returns c = search (rules, binding_well_formed)

use Rattle.std.proofs.Common.{rules}
use Rattle.populate.proofs.CallWays.{list_refused, asked_outside, asked_inside}
use Rattle.populate.proofs.call.populate_types.Goals as goal

pub returns-then-not-index_types : goal.returns-then-not-index_types
returns-then-not-index_types c = rw c.plain.ensures (search list_refused)

pub returns-then-count-asked : goal.returns-then-count-asked
returns-then-count-asked c = rw c.plain-then-count-asked.ensures (search asked_outside)

pub returns : goal.returns
returns c = search (rules, asked_inside)

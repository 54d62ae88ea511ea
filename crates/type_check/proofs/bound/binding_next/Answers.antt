use Rattle.type_check.proofs.Bindings.{none_good, none_bad, local_good, local_in, local_bad, built_in_good, built_in_bad, other_bad}
use Rattle.type_check.proofs.bound.binding_next.Goals as goal

pub returns-in-6-clause-position : goal.returns-in-6-clause-position
returns-in-6-clause-position c = search none_good

pub returns-in-12-clause-position : goal.returns-in-12-clause-position
returns-in-12-clause-position c = search local_good

pub returns-in-12-clause-within : goal.returns-in-12-clause-within
returns-in-12-clause-within c = search local_in

pub returns-in-14-clause-position : goal.returns-in-14-clause-position
returns-in-14-clause-position c = search built_in_good

pub returns-in_default-clause-position : goal.returns-in_default-clause-position
returns-in_default-clause-position c = search none_bad

pub returns-in_default-2-clause-position : goal.returns-in_default-2-clause-position
returns-in_default-2-clause-position c = search local_bad

pub returns-in_default-3-clause-position : goal.returns-in_default-3-clause-position
returns-in_default-3-clause-position c = search built_in_bad

pub returns-in_default-4-clause-position : goal.returns-in_default-4-clause-position
returns-in_default-4-clause-position c = search other_bad

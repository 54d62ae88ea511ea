use Rattle.type_check.proofs.TypeWays.{type_malformed, type_numeric, array_malformed, array_well_formed, type_struct}
use Rattle.type_check.proofs.index.type_read.Goals as goal

pub returns-then-not-head_well_formed-clause-reached : goal.returns-then-not-head_well_formed-clause-reached
returns-then-not-head_well_formed-clause-reached c = search type_malformed

pub returns-in-22-clause-reached : goal.returns-in-22-clause-reached
returns-in-22-clause-reached c = search type_numeric

pub returns-then-kind-ne6-clause-reached : goal.returns-then-kind-ne6-clause-reached
returns-then-kind-ne6-clause-reached c = search array_malformed

pub returns-else-kind-ne6-clause-reached : goal.returns-else-kind-ne6-clause-reached
returns-else-kind-ne6-clause-reached c = search array_well_formed

pub returns-in_default-clause-reached : goal.returns-in_default-clause-reached
returns-in_default-clause-reached c = search type_struct

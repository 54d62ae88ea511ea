use Rattle.type_check.proofs.ListWays.{list_long, list_uncounted, list_told, list_noted, list_count, all_read}
use Rattle.type_check.proofs.index.index_types.Goals as goal

pub returns-then-types-gt1024-clause-value : goal.returns-then-types-gt1024-clause-value
returns-then-types-gt1024-clause-value c = search list_long

pub returns-then-not-count_well_formed-clause-value : goal.returns-then-not-count_well_formed-clause-value
returns-then-not-count_well_formed-clause-value c = search list_uncounted

pub returns-clause-value : goal.returns-clause-value
returns-clause-value c = search list_told

pub returns-clause-noted : goal.returns-clause-noted
returns-clause-noted c = search list_noted

pub returns-clause-counted : goal.returns-clause-counted
returns-clause-counted c = search list_count

pub returns-clause-all_read : goal.returns-clause-all_read
returns-clause-all_read c = λ z. search all_read

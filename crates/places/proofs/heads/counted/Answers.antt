use Rattle.places.specs.Records.{count_of}
use borrow.Author.Rules.{rules}
use Rattle.places.proofs.heads.counted.Goals as goal

pub bounds-l-0 : goal.bounds-l-0
unfolding count_of
bounds-l-0 c = search rules

pub overflow_cast-result : goal.overflow_cast-result
unfolding count_of
overflow_cast-result c = search rules

pub returns-clause-value : goal.returns-clause-value
unfolding count_of
returns-clause-value c = search rules

pub returns-clause-upper_bound : goal.returns-clause-upper_bound
unfolding count_of
returns-clause-upper_bound c = search rules

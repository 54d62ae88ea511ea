use Rattle.std.proofs.Common.{rules}
use Rattle.places.proofs.Records.{record_refused, record_fits, record_pushed}
use Rattle.places.proofs.stores.push_record.Goals as goal

pub returns-then-l-at-clause-value : goal.returns-then-l-at-clause-value
returns-then-l-at-clause-value g c = search (record_refused, rules)

pub returns-clause-value : goal.returns-clause-value
returns-clause-value g c = search (record_fits, rules)

pub returns-clause-words : goal.returns-clause-words
returns-clause-words g c = search (record_pushed, rules)

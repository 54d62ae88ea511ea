use Rattle.places.proofs.MarkLaws.{bit_is}
use Rattle.places.proofs.places.bit_of.Goals as goal

pub returns-clause-value : goal.returns-clause-value
returns-clause-value c = search bit_is

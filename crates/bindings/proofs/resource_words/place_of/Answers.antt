use Rattle.bindings.proofs.ReadLaws.{place_encodable_lem}
use Rattle.bindings.proofs.resource_words.place_of.Goals as goal

pub returns-clause-encodable : goal.returns-clause-encodable
returns-clause-encodable c = search place_encodable_lem

use Rattle.bindings.proofs.ResourceLaws.{resource_parts}
use Rattle.bindings.proofs.resource_words.resource_of.Goals as goal

pub returns-clause-meaning : goal.returns-clause-meaning
returns-clause-meaning c = search resource_parts

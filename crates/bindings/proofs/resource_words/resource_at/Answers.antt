use Rattle.bindings.proofs.ResourceLaws.{resource_past, resource_there_lem}
use Rattle.bindings.proofs.resource_words.resource_at.Goals as goal

pub returns-then-pack-at-clause-meaning : goal.returns-then-pack-at-clause-meaning
returns-then-pack-at-clause-meaning c = search resource_past

pub returns-clause-meaning : goal.returns-clause-meaning
returns-clause-meaning c = search resource_there_lem

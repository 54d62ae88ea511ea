use Rattle.bindings.proofs.EntryLaws.{entry_parts}
use Rattle.bindings.proofs.entry_words.entry_of.Goals as goal

pub returns-clause-meaning : goal.returns-clause-meaning
returns-clause-meaning c = search entry_parts

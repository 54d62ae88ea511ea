use Rattle.bindings.proofs.EntryLaws.{entry_past, entry_there_lem}
use Rattle.bindings.proofs.entry_words.entry_at.Goals as goal

pub returns-then-l-at-clause-meaning : goal.returns-then-l-at-clause-meaning
returns-then-l-at-clause-meaning c = search entry_past

pub returns-clause-meaning : goal.returns-clause-meaning
returns-clause-meaning c = search entry_there_lem

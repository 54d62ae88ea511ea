use Rattle.bindings.proofs.EntryLaws.{well_formed_past, well_formed_there}
use Rattle.bindings.proofs.entry_words.entry_well_formed.Goals as goal

pub returns-then-l-at : goal.returns-then-l-at
returns-then-l-at c = search (well_formed_past, well_formed_there)

pub returns : goal.returns
returns c = search well_formed_there

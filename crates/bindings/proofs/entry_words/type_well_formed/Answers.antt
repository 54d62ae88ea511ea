use Rattle.bindings.proofs.EntryLaws.{type_word_lem}
use Rattle.bindings.proofs.entry_words.type_well_formed.Goals as goal

pub returns : goal.returns
returns c = search type_word_lem

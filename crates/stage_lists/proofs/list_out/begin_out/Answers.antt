use Rattle.stage_lists.proofs.OutStores.{begun_words, begun_first, begun_decoded, begun_well_formed}
use Rattle.stage_lists.proofs.list_out.begin_out.Goals as goal

pub returns-clause-words : goal.returns-clause-words
returns-clause-words c = search begun_words

pub returns-clause-decoded : goal.returns-clause-decoded
returns-clause-decoded c = search begun_decoded

pub returns-clause-still_well_formed : goal.returns-clause-still_well_formed
returns-clause-still_well_formed c = search begun_well_formed

pub returns-clause-head : goal.returns-clause-head
returns-clause-head c = search begun_first

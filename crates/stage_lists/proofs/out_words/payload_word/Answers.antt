use Rattle.stage_lists.proofs.OutWords.{payload_none, payload_some, payload_sum}
use Rattle.stage_lists.proofs.out_words.payload_word.Goals as goal

pub overflow_add-result : goal.overflow_add-result
overflow_add-result c = search payload_sum

pub returns-in-None : goal.returns-in-None
returns-in-None c = search payload_none

pub returns-in-Some : goal.returns-in-Some
returns-in-Some c = search payload_some

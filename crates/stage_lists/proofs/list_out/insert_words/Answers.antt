use Rattle.stage_lists.proofs.OutStores.{counted_once, counted_as, located_well_formed, out_fits, out_good_lem, out_rises, head_sum, out_inserted, out_words_lem, out_head, inserted_decoded, inserted_well_formed}
use borrow.Author.Rules.{rules}
use Rattle.stage_lists.proofs.list_out.insert_words.Goals as goal

pub place_last-requires-clause-n_in_bounds : goal.place_last-requires-clause-n_in_bounds
place_last-requires-clause-n_in_bounds c = (search out_fits, search rules, search out_good_lem)

pub place_last-requires-clause-variable : goal.place_last-requires-clause-variable
place_last-requires-clause-variable c = (search rules, search located_well_formed, search out_rises)

pub overflow_add-result : goal.overflow_add-result
overflow_add-result c = search (head_sum, counted_once)

pub returns-clause-encoded : goal.returns-clause-encoded
returns-clause-encoded c = search (out_inserted, counted_once, counted_as)

pub returns-clause-decoded : goal.returns-clause-decoded
returns-clause-decoded c = search (inserted_decoded, out_inserted, counted_once, counted_as)

pub returns-clause-still_well_formed : goal.returns-clause-still_well_formed
returns-clause-still_well_formed c = search (inserted_well_formed, out_inserted, counted_once, counted_as)

pub returns-clause-words : goal.returns-clause-words
returns-clause-words c = search (out_words_lem, counted_once, counted_as)

pub returns-clause-head : goal.returns-clause-head
returns-clause-head c = search (out_head, counted_once, counted_as)

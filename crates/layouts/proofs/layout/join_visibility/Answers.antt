use Rattle.interface.proofs.EncodeEntry.{stage_below}
use Rattle.layouts.proofs.LayoutStores.{entry_scaled, entry_placed, word_placed, word_bytes, word_inside, join_stored, join_decoded, join_well_formed}
use borrow.Author.Rules.{rules}
use Rattle.layouts.proofs.layout.join_visibility.Goals as goal

pub overflow_mul-at : goal.overflow_mul-at
overflow_mul-at c = search entry_scaled

pub overflow_add-at : goal.overflow_add-at
overflow_add-at c = search entry_placed

pub overflow_add-at-2 : goal.overflow_add-at-2
overflow_add-at-2 c = search (word_placed, rules)

pub offset_bounds-l-at : goal.offset_bounds-l-at
offset_bounds-l-at c = search (word_bytes, rules)

pub bounds-l-at : goal.bounds-l-at
bounds-l-at c = search (word_inside, rules)

pub returns-clause-encoded : goal.returns-clause-encoded
returns-clause-encoded c = search join_stored

pub returns-clause-decoded : goal.returns-clause-decoded
returns-clause-decoded c = search (join_decoded, stage_below)

pub returns-clause-still_well_formed : goal.returns-clause-still_well_formed
returns-clause-still_well_formed c = search (join_well_formed, stage_below)

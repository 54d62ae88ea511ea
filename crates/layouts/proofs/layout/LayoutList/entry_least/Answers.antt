use Rattle.layouts.proofs.LayoutStores.{entry_scaled, entry_placed, word_placed, size_inside, least_there}
use borrow.Author.Rules.{rules}
use Rattle.layouts.proofs.layout.LayoutList.entry_least.Goals as goal

pub overflow_mul-index : goal.overflow_mul-index
overflow_mul-index c = search entry_scaled

pub overflow_add-index : goal.overflow_add-index
overflow_add-index c = search entry_placed

pub overflow_add-index-2 : goal.overflow_add-index-2
overflow_add-index-2 c = search (word_placed, rules)

pub size_at-requires : goal.size_at-requires
size_at-requires c = search size_inside

pub returns : goal.returns
returns c = search least_there

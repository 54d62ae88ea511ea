use Rattle.layouts.proofs.LayoutStores.{entry_scaled, entry_placed, word_placed, word_bytes, word_inside}
use Rattle.layouts.proofs.layout.LayoutList.entry_word.Goals as goal

pub overflow_mul-result : goal.overflow_mul-result
overflow_mul-result c = search entry_scaled

pub overflow_add-result : goal.overflow_add-result
overflow_add-result c = search entry_placed

pub overflow_add-result-2 : goal.overflow_add-result-2
overflow_add-result-2 c = search word_placed

pub offset_bounds-self-index : goal.offset_bounds-self-index
offset_bounds-self-index c = search word_bytes

pub bounds-self-index : goal.bounds-self-index
bounds-self-index c = search word_inside

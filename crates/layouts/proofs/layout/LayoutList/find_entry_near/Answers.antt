use borrow.Author.Rules.{rules}
use Rattle.places.proofs.PlaceWays.{content_tells}
use Rattle.layouts.proofs.LayoutWays.{entry_found, entries_begin, entries_differ, entries_within, entry_below}
use Rattle.layouts.proofs.LayoutStores.{head_there}
use Rattle.layouts.proofs.layout.LayoutList.find_entry_near.Goals as goal

pub slice_bounds-entries-count : goal.slice_bounds-entries-count
slice_bounds-entries-count c = search head_there

pub slice_bounds-entries-start : goal.slice_bounds-entries-start
slice_bounds-entries-start c = search head_there

pub counted-n-requires : goal.counted-n-requires
counted-n-requires c = search head_there

pub invariant_of-entries-clause-within : goal.invariant_of-entries-clause-within
invariant_of-entries-clause-within c = entries_within _ _ (search rules) c.counted-n.ensures.value

pub find_near-requires : goal.find_near-requires
find_near-requires c = (search rules, ((search rules, search entries_begin), search entries_differ))

pub returns-clause-value : goal.returns-clause-value
returns-clause-value c = search (entry_found, content_tells)

pub returns-clause-below : goal.returns-clause-below
returns-clause-below c = search entry_below

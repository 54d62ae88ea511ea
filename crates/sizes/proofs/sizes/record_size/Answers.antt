use Rattle.places.proofs.PlaceWays.{content_tells}
use Rattle.sizes.proofs.SizeStores.{head_there, records_within, sizes_begin, sizes_differ, index_inside, index_scaled, index_placed, index_next, size_lacks, size_fits_lem, size_raised, next_noted, next_kept, record_decoded, record_well_formed, raised_well_formed}
use borrow.Author.Rules.{rules}
use Rattle.sizes.proofs.sizes.record_size.Goals as goal

pub counted-n-requires : goal.counted-n-requires
counted-n-requires c = search head_there

pub slice_bounds-records-count : goal.slice_bounds-records-count
slice_bounds-records-count c = search head_there

pub slice_bounds-records-start : goal.slice_bounds-records-start
slice_bounds-records-start c = search head_there

pub invariant_of-records-clause-within : goal.invariant_of-records-clause-within
invariant_of-records-clause-within c = records_within _ _ (search rules) c.counted-n.ensures.value

pub find_near-requires : goal.find_near-requires
find_near-requires c = (search rules, ((search rules, search sizes_begin), search sizes_differ))

pub overflow_add-next : goal.overflow_add-next
overflow_add-next c = search (index_next, rules)

pub overflow_mul-index : goal.overflow_mul-index
overflow_mul-index c = search index_scaled

pub overflow_add-index : goal.overflow_add-index
overflow_add-index c = search index_placed

pub raise_word-requires : goal.raise_word-requires
raise_word-requires c = search index_inside

pub push_size-requires-clause-place_free : goal.push_size-requires-clause-place_free
push_size-requires-clause-place_free c = search (size_lacks, content_tells)

pub returns-in-Some-clause-value : goal.returns-in-Some-clause-value
returns-in-Some-clause-value c = search (size_fits_lem, content_tells)

pub returns-in-Some-clause-encoded : goal.returns-in-Some-clause-encoded
returns-in-Some-clause-encoded c = search (size_raised, content_tells)

pub returns-in-Some-clause-decoded : goal.returns-in-Some-clause-decoded
returns-in-Some-clause-decoded c = search (record_decoded, size_raised, content_tells)

pub returns-in-Some-clause-still_well_formed : goal.returns-in-Some-clause-still_well_formed
returns-in-Some-clause-still_well_formed c = search raised_well_formed

pub returns-in-Some-clause-next_noted : goal.returns-in-Some-clause-next_noted
returns-in-Some-clause-next_noted c = search (next_noted, content_tells)

pub returns-in-None-clause-decoded : goal.returns-in-None-clause-decoded
returns-in-None-clause-decoded c = search record_decoded

pub returns-in-None-clause-still_well_formed : goal.returns-in-None-clause-still_well_formed
returns-in-None-clause-still_well_formed c = search record_well_formed

pub returns-in-None-clause-next_noted : goal.returns-in-None-clause-next_noted
returns-in-None-clause-next_noted c = search (next_kept, content_tells)

use Rattle.resource_steps.proofs.ProvideLaws.{place_well_formed_lem, size_some, size_full, size_fits_lem}
use borrow.Author.Rules.{rules}
use Rattle.resource_steps.proofs.provide.record_buffer.Goals as goal

pub record_size-requires-clause-place_and_size : goal.record_size-requires-clause-place_and_size
record_size-requires-clause-place_and_size c = (search (place_well_formed_lem, rules), search size_some, search size_fits_lem)

pub returns-then-not-record_size-clause-sizes_after : goal.returns-then-not-record_size-clause-sizes_after
returns-then-not-record_size-clause-sizes_after c = search size_full

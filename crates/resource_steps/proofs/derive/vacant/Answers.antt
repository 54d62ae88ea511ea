use Rattle.resource_steps.proofs.DeriveLaws.{type_words, new_well_formed, new_fits, new_lacks, vacant_pushed, new_small}
use Rattle.resource_steps.proofs.derive.vacant.Goals as goal

pub push_entry-pushed-requires-clause-parts : goal.push_entry-pushed-requires-clause-parts
push_entry-pushed-requires-clause-parts c = (search (new_small, type_words c.args.ty), search (new_well_formed, type_words c.args.ty))

pub push_entry-pushed-requires-clause-fits : goal.push_entry-pushed-requires-clause-fits
push_entry-pushed-requires-clause-fits c = search (new_fits, type_words c.args.ty)

pub push_entry-pushed-requires-clause-place_free : goal.push_entry-pushed-requires-clause-place_free
push_entry-pushed-requires-clause-place_free c = search (new_lacks, type_words c.args.ty)

pub returns-clause-layout_after : goal.returns-clause-layout_after
returns-clause-layout_after c = search (vacant_pushed, type_words c.args.ty)

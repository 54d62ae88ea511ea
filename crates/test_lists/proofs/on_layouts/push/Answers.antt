use Rattle.std.proofs.Common.{rules}
use Rattle.test_lists.proofs.Tested.{least_small, parts_passed, entry_fits_lem, place_new, group_fits, found_none}
use Rattle.test_lists.proofs.on_layouts.push.Goals as goal

pub push_entry-requires-clause-parts : goal.push_entry-requires-clause-parts
push_entry-requires-clause-parts g c = (search least_small, search (rules, parts_passed))

pub push_entry-requires-clause-fits : goal.push_entry-requires-clause-fits
push_entry-requires-clause-fits g c = search (rules, entry_fits_lem, group_fits)

pub push_entry-requires-clause-place_free : goal.push_entry-requires-clause-place_free
push_entry-requires-clause-place_free g c = search (rules, place_new, found_none)

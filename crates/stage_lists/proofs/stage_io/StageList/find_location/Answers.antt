use Rattle.stage_lists.proofs.StageWays.{location_decoded, location_provided, first_there, varyings_within, near_inside, near_below, near_found}
use Rattle.stage_lists.proofs.stage_io.StageList.find_location.Goals as goal

pub counted-n-requires : goal.counted-n-requires
counted-n-requires c = search first_there

pub bounds-l-near : goal.bounds-l-near
bounds-l-near c = search near_inside

pub returns-then-l-near-clause-variable : goal.returns-then-l-near-clause-variable
returns-then-l-near-clause-variable c = search (location_provided, near_found)

pub returns-then-l-near-clause-within : goal.returns-then-l-near-clause-within
returns-then-l-near-clause-within c = search near_below

pub returns-then-l-near-clause-value : goal.returns-then-l-near-clause-value
returns-then-l-near-clause-value c = search near_found

pub find_within-requires-clause-n_in_bounds : goal.find_within-requires-clause-n_in_bounds
find_within-requires-clause-n_in_bounds c = search varyings_within

pub returns-clause-variable : goal.returns-clause-variable
returns-clause-variable c = search (location_provided, location_decoded)

pub returns-clause-value : goal.returns-clause-value
returns-clause-value c = search location_decoded

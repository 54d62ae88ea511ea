use Rattle.stage_lists.proofs.StageWays.{location_hit, location_miss, location_ended, location_found, within_below}
use Rattle.stage_lists.proofs.stage_io.find_within.Goals as goal

pub returns-then-l-index-clause-variable : goal.returns-then-l-index-clause-variable
returns-then-l-index-clause-variable c = search (location_found, location_hit)

pub returns-then-l-index-clause-within : goal.returns-then-l-index-clause-within
returns-then-l-index-clause-within c = search within_below

pub returns-then-l-index-clause-value : goal.returns-then-l-index-clause-value
returns-then-l-index-clause-value c = search location_hit

pub loop-i-preserved : goal.loop-i-preserved
loop-i-preserved c = search location_miss

pub returns-clause-variable : goal.returns-clause-variable
returns-clause-variable c = search (location_found, location_ended)

pub returns-clause-value : goal.returns-clause-value
returns-clause-value c = search location_ended

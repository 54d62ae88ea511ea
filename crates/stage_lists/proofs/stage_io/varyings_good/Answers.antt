use borrow.Author.Rules.{rules}
use Rattle.varying.proofs.Ways.{var_vector}
use Rattle.places.proofs.Ways.{each_fails, each_onward, each_ended}
use Rattle.stage_lists.proofs.StageWays.{located_var}
use Rattle.stage_lists.proofs.stage_io.varyings_good.Goals as goal

pub loop-i-init : goal.loop-i-init
loop-i-init c = (search var_vector, search rules)

pub returns-then-not-located_good : goal.returns-then-not-located_good
returns-then-not-located_good c = search each_fails

pub loop-i-preserved : goal.loop-i-preserved
loop-i-preserved c = (search located_var, search each_onward)

pub returns : goal.returns
returns c = search each_ended

use Rattle.places.proofs.Ways.{each_fails, each_onward, each_ended}
use Rattle.sizes.proofs.sizes.sizes_good.Goals as goal

pub returns-then-not-size_good : goal.returns-then-not-size_good
returns-then-not-size_good c = search each_fails

pub loop-i-preserved : goal.loop-i-preserved
loop-i-preserved c = search each_onward

pub returns : goal.returns
returns c = search each_ended

use Rattle.places.proofs.Ways.{each_fails, each_onward, each_ended}
use Rattle.layouts.proofs.layout.entries_good.Goals as goal

pub returns-then-not-entry_good : goal.returns-then-not-entry_good
returns-then-not-entry_good c = search each_fails

pub loop-i-preserved : goal.loop-i-preserved
loop-i-preserved c = search each_onward

pub returns : goal.returns
returns c = search each_ended

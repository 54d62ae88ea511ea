use Rattle.entry_check.proofs.CheckHeads.{head_found, head_missed, heads_ended}
use Rattle.entry_check.proofs.check_names.head_again.Goals as goal

pub returns-then-same_head : goal.returns-then-same_head
returns-then-same_head c = search head_found

pub loop-g-preserved : goal.loop-g-preserved
loop-g-preserved c = search head_missed

pub returns : goal.returns
returns c = search heads_ended

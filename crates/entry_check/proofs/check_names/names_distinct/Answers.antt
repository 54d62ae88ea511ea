use Rattle.std.proofs.Common.{rules}
use Rattle.entry_check.proofs.CheckHeads.{head_twice, head_once, distinct_ended}
use Rattle.entry_check.proofs.check_names.names_distinct.Goals as goal

pub returns-then-head_again : goal.returns-then-head_again
returns-then-head_again c = search (rules, head_twice)

pub loop-i-preserved : goal.loop-i-preserved
loop-i-preserved c = search (rules, head_once)

pub returns : goal.returns
returns c = search distinct_ended

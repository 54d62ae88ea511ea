use borrow.Author.Rules.{rules}
use Rattle.stage_lists.proofs.StageWays.{rising_falls, rising_onward, rising_ended}
use Rattle.stage_lists.proofs.stage_io.rises.Goals as goal

pub returns-then-varyings-i : goal.returns-then-varyings-i
returns-then-varyings-i c = search (rising_falls, rules)

pub loop-i-preserved : goal.loop-i-preserved
loop-i-preserved c = search (rising_onward, rules)

pub returns : goal.returns
returns c = search rising_ended

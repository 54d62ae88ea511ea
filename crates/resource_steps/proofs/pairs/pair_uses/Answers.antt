use borrow.Author.Rules.{rules}
use Rattle.resource_steps.proofs.PairLaws.{pair_below_lem, pairs_rest, pairs_refused, pairs_onward, pairs_ended}
use Rattle.resource_steps.proofs.pairs.pair_uses.Goals as goal

pub pair_use-requires : goal.pair_use-requires
pair_use-requires c = search pair_below_lem

pub returns-in_err-pair_use : goal.returns-in_err-pair_use
returns-in_err-pair_use c = search (rules, pairs_refused, c.in_err-pair_use.was)

pub loop-w-preserved : goal.loop-w-preserved
loop-w-preserved c = (search pairs_rest, search (pairs_onward, c.in_ok-pair_use.was))

pub returns : goal.returns
returns c = search pairs_ended
